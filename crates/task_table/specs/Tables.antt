-- What contracts see of a table of tasks, and how it stands to the history of some calls.
-- All of it is this project's rule.
use Rattle.std.specs.Prelude.{◌≡◌, ℕ, Bool, true, false, List, ◌∷◌, length, Option, Some, None, slice_get, slice_index_or}
use Rattle.sched_time.specs.declared.policies.Policies.{Policies}
use Rattle.executor_model.specs.declared.types.Happening.{Happening}
use Rattle.executor_model.specs.declared.types.Happening.TheVariants as h
use Rattle.queue_code.specs.Calls.{Planned, IsOrderly}
use Rattle.executor_model.specs.Answers.{Reply}
use Rattle.executor_model.specs.Histories.{HistoryEntry, happenings, made, answer, kept_after, view_of_history, IsHistoryOf}
use Rattle.executor_model.specs.State.{State, after}
use Rattle.task_table.specs.declared.seat.Seat.{Seat}
use Rattle.task_table.specs.Seats.{task_in, slot_of, is_alive}

-- the moment, the slots, the slot of each worker's task, the policies, and whether the executor is shut, and stopped
pub record TableView : Type 0 where
  pub moment : ℕ
  pub slots : List (Option Seat)
  pub work : List (Option ℕ)
  pub policies : Policies
  pub shut : Bool
  pub stopped : Bool

-- how many workers there are
abbrev pub workers_of : TableView → ℕ
workers_of m = length m.work

-- what a worker's slot says of its task
abbrev pub WorkIs : List (Option Seat) → Option ℕ → Option ℕ → Type 0
WorkIs slots None work = work ≡ None
WorkIs slots (Some slot) work = (x : Seat) × (slot_of slots slot ≡ Some x) × (work ≡ Some x.number)

-- The table shows a state: what each slot holds is the task of its number, and each task of which something may come has a
-- slot. Of the others it need not know.
pub record Shows (m : TableView) (s : State) : Type 0 where
  pub moment : s.moment ≡ m.moment
  pub policies : s.policies ≡ m.policies
  pub shut : s.shut ≡ m.shut
  pub stopped : s.stopped ≡ m.stopped
  pub held : (i : ℕ) (x : Seat) → slot_of m.slots i ≡ Some x → s.tasks x.number ≡ task_in x
  pub known : (k : ℕ) → is_alive (s.tasks k) ≡ true → (i : ℕ) × (x : Seat) × (slot_of m.slots i ≡ Some x) × (x.number ≡ k)
  pub work : (w : ℕ) → WorkIs m.slots (slice_index_or m.work w None) (s.workers w)

-- the table shows where a history of some calls leads
pub record Stands (m : TableView) (calls : List Planned) (past : List HistoryEntry) : Type 0 where
  pub orderly : IsOrderly calls
  pub means : IsHistoryOf calls (workers_of m) past
  pub shows : Shows m (after calls (workers_of m) (happenings past))

-- a state in which some tasks are kept, and no others
abbrev pub keeping : State → (ℕ → Bool) → State
keeping s kept = record s { tasks = λ k. record (s.tasks k) { kept = kept k } }

-- the table shows where a history of some calls leads, but that of the tasks which this happening would drop from the queue some
-- may be dropped already
pub record StandsBefore (m : TableView) (calls : List Planned) (past : List HistoryEntry) (y : Happening) : Type 0 where
  pub orderly : IsOrderly calls
  pub means : IsHistoryOf calls (workers_of m) past
  pub kept : ℕ → Bool
  pub shows : Shows m (keeping (after calls (workers_of m) (happenings past)) kept)
  pub fewer : (k : ℕ) → kept k ≡ true → ((after calls (workers_of m) (happenings past)).tasks k).kept ≡ true
  pub dropped : (k : ℕ) → ((after calls (workers_of m) (happenings past)).tasks k).kept ≡ true → kept k ≡ false
      → kept_after (view_of_history calls past) k (answer calls (workers_of m) past y).answer ≡ false

-- a happening that comes after a history has this reply, and the table shows where it leads
pub record Takes (m : TableView) (calls : List Planned) (past : List HistoryEntry) (y : Happening) (r : Reply) : Type 0 where
  pub said : answer calls (workers_of m) past y ≡ r
  pub shows : Shows m (after calls (workers_of m) (y ∷ happenings past))

-- this is the next call
abbrev pub IsNextCall : List Planned → List HistoryEntry → Planned → Type 0
IsNextCall calls past p = slice_get calls (made (happenings past)) ≡ Some p

-- whatever the calls and their history are where the table stood, the step of an event is taken
abbrev pub EventSteps : TableView → TableView → Happening → Reply → Type 0
EventSteps old new y r = (calls : List Planned) (past : List HistoryEntry) → Stands old calls past → Takes new calls past y r

-- the same of a call that is the next one
abbrev pub CallSteps : TableView → TableView → Planned → Reply → Type 0
CallSteps old new p r = (calls : List Planned) (past : List HistoryEntry) → Stands old calls past → IsNextCall calls past p → Takes new calls past h.Call r

-- the same of an event, where some of the tasks that it drops may be dropped already
abbrev pub EventStepsBefore : TableView → TableView → Happening → Reply → Type 0
EventStepsBefore old new y r = (calls : List Planned) (past : List HistoryEntry) → StandsBefore old calls past y → Takes new calls past y r

-- the same of a call
abbrev pub CallStepsBefore : TableView → TableView → Planned → Reply → Type 0
CallStepsBefore old new p r = (calls : List Planned) (past : List HistoryEntry) → StandsBefore old calls past h.Call → IsNextCall calls past p → Takes new calls past h.Call r
