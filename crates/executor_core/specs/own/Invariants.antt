-- What stays true of each core: its invariant, and what it rests on. No contract of a public call cites it but through
-- the invariant of `Core`. All of it is this project's rule.
use Rattle.std.specs.Prelude.{◌≡◌, ◌≢◌, ℕ, ◌<◌, ◌≤◌, Bool, true, List, length, Option, Some, None, slice_get}
use Rattle.sched_time.specs.Times.{longest}
use Rattle.queue_code.specs.Calls.{Planned, IsPlanned, task_count}
use Rattle.executor_model.specs.declared.task.Stage.TheVariants as ph
use Rattle.executor_model.specs.Counts.{most_workers}
use Rattle.executor_model.specs.Histories.{HistoryEntry, happenings, made}
use Rattle.executor_model.specs.State.{vacant, after}
use Rattle.executor_model.specs.own.Soundness.{NoneDelayed}
use Rattle.task_table.specs.declared.seat.Seat.{Seat}
use Rattle.task_table.specs.Seats.{slot_of}
use Rattle.task_table.specs.Tables.{TableView, Stands}
use Rattle.executor_core.specs.plan_table.Numbered.{tasks_at}
use Rattle.executor_core.specs.CoreView.{CoreView, workers_of, state_of}

-- what contracts see of a core with this table
abbrev pub core_of : List Planned → ℕ → ℕ → ℕ → TableView → CoreView
core_of calls limit taken made table = record {
  calls = calls;
  limit = limit;
  taken = taken;
  made = made;
  moment = table.moment;
  tasks = tasks_at table.slots;
  work = table.work;
  policies = table.policies;
  shut = table.shut;
  stopped = table.stopped;
}

-- a task stands in the slot of its number, and was submitted; each run that ended was started by an event and finished by another
pub record IsPlaced (taken slot : ℕ) (x : Seat) : Type 0 where
  pub named : x.number ≡ slot
  pub submitted : x.phase ≢ ph.Vacant
  pub below : x.run ≤ taken
  pub begun : x.phase ≡ ph.Running → x.run < taken

-- each task is placed so
abbrev pub ArePlaced : ℕ → List (Option Seat) → Type 0
ArePlaced taken slots = (i : ℕ) (x : Seat) → slot_of slots i ≡ Some x → IsPlaced taken i x

-- a table stands where a history of some calls leads, in which so many were made: a task that has no slot is vacant there
pub record IsReached (calls : List Planned) (count : ℕ) (table : TableView) (past : List HistoryEntry) : Type 0 where
  pub stands : Stands table calls past
  pub front : made (happenings past) ≡ count
  pub gone : (i : ℕ) → slot_of table.slots i ≡ None → (after calls (length table.work) (happenings past)).tasks i ≡ vacant

-- what stays true of a core, whose table shows its tasks and its workers, and whether a sweep has looked for delayed tasks
pub record IsCore (m : CoreView) (table : TableView) (sought : Bool) : Type 0 where
  pub shown : m ≡ core_of m.calls m.limit m.taken m.made table
  pub orderly : IsPlanned m.calls
  pub made : m.made ≤ length m.calls
  pub few : workers_of m ≤ most_workers
  pub taken : m.taken ≤ m.limit
  pub moment : m.moment ≤ longest
  -- the next call is not before the moment
  pub ahead : (p : Planned) → slice_get m.calls m.made ≡ Some p → m.moment ≤ p.0
  pub count : length m.tasks ≡ task_count m.calls
  pub past : List HistoryEntry
  pub reached : IsReached m.calls m.made table past
  pub placed : ArePlaced m.taken table.slots
  -- once the delayed tasks were ended, none comes
  pub delayed : sought ≡ true → (m.shut ≡ true) × NoneDelayed (state_of m)
