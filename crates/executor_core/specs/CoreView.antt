-- What contracts see of an executor's core, and the state and history in which it stands.
-- All of it is this project's rule.
use Rattle.std.specs.Prelude.{◌≡◌, ℕ, ◌+◌, ◌-◌, ◌<◌, ◌≤◌, Bool, true, false, List, [], ◌∷◌, ◌++◌, length, Option, None, slice_index_or}
use Rattle.sched_time.specs.declared.policies.Policies.{Policies}
use Rattle.executor_model.specs.declared.types.Event.{Event}
use Rattle.executor_model.specs.declared.types.Happening.{Happening}
use Rattle.executor_model.specs.declared.types.Happening.TheVariants as h
use Rattle.executor_model.specs.declared.types.Line.{Line}
use Rattle.executor_model.specs.declared.types.EventError.{EventError}
use Rattle.executor_model.specs.declared.types.Answer.TheVariants as a
use Rattle.executor_model.specs.declared.task.Task.{Task}
use Rattle.queue_code.specs.Calls.{Planned, task_count}
use Rattle.executor_model.specs.Histories.{HistoryEntry, happenings, IsHistoryOf, MayCome}
use Rattle.executor_model.specs.State.{State, vacant, after, after_from, reply_of}
use Rattle.executor_model.specs.Flows.{happening_of, part_of, history_from, answer_line, lines_of, lines_from}
use Rattle.executor_model.specs.Tasks.{uncancelled_in}
use Rattle.executor_model.specs.declared.types.Need.{Need}
use Rattle.executor_model.specs.declared.types.Need.TheVariants as n

-- what contracts see of a core: its plan's calls, how many of them it made, the moment, its tasks and its workers' tasks, its policies,
-- and whether it is shut, and stopped
pub record CoreView : Type 0 where
  pub calls : List Planned
  -- how many events it takes, and how many it took
  pub limit : ℕ
  pub taken : ℕ
  pub made : ℕ
  pub moment : ℕ
  -- a task by its number
  pub tasks : List Task
  -- the task of a worker by the worker's number
  pub work : List (Option ℕ)
  pub policies : Policies
  pub shut : Bool
  pub stopped : Bool

-- how many workers a core has
abbrev pub workers_of : CoreView → ℕ
workers_of m = length m.work

-- the state of a core: what its tables say; past their ends a task is vacant, and a worker has no work
abbrev pub state_of : CoreView → State
state_of m = record {
  made = m.made;
  moment = m.moment;
  tasks = λ k. slice_index_or m.tasks k vacant;
  workers = λ w. slice_index_or m.work w None;
  policies = m.policies;
  shut = m.shut;
  stopped = m.stopped;
}

-- how many lines an event adds at most: one of its own, one of each call that is left, and one of each task that
-- is not cancelled, which the event may end
abbrev pub room_of : CoreView → ℕ
room_of m = 1 + (length m.calls - m.made) + uncancelled_in m.tasks

-- the core is where the happenings of a history lead
abbrev pub Stands : CoreView → List HistoryEntry → Type 0
Stands m past = state_of m ≡ after m.calls (workers_of m) (happenings past)

-- the core of some calls before anything happened
pub record IsOpening (m : CoreView) (planned : List Planned) (workers most : ℕ) : Type 0 where
  pub calls : m.calls ≡ planned
  pub limit : m.limit ≡ most
  pub taken : m.taken ≡ 0
  pub count : workers_of m ≡ workers
  pub stands : Stands m []

-- the core took the steps of some happenings, the newest first, and gave their lines
pub record Steps (old new : CoreView) (before after_lines : List Line) (happened : List Happening) : Type 0 where
  pub calls : new.calls ≡ old.calls
  pub limit : new.limit ≡ old.limit
  pub workers : workers_of new ≡ workers_of old
  pub state : state_of new ≡ after_from old.calls (workers_of old) (state_of old) happened
  pub lines : after_lines ≡ before ++ lines_from old.calls (workers_of old) (state_of old) happened

-- the core counted an event, and nothing else changed
abbrev pub Counts : CoreView → CoreView → Type 0
Counts old new = new ≡ record old { taken = old.taken + 1 }

-- where an event is answered by an error, its line is added, and nothing changes but the number of events taken
-- (this project's rule)
abbrev pub ErrorOnlyCounts : CoreView → CoreView → List Line → List Line → Event → Type 0
ErrorOnlyCounts old new before after_lines event =
    (error : EventError) → (reply_of old.calls (workers_of old) (state_of old) (happening_of event)).answer ≡ a.Error error
    → Counts old new × (after_lines ≡ before ++ answer_line old.moment (a.Error error) ∷ [])

-- after a history in which the core stood, what happened then, the newest first, is answered as the equations say, and
-- its lines are added
pub record ContinuesWith (old new : CoreView) (before after_lines : List Line) (happened : List Happening) (past : List HistoryEntry) : Type 0 where
  pub means : IsHistoryOf old.calls (workers_of old) (history_from old.calls (workers_of old) past happened)
  pub stands : Stands new (history_from old.calls (workers_of old) past happened)
  pub added : List Line
  pub given : after_lines ≡ before ++ added
  pub spoken : lines_of old.calls (history_from old.calls (workers_of old) past happened) ≡ lines_of old.calls past ++ added

-- the same of the event's part of the flow
abbrev pub Continues : CoreView → CoreView → List Line → List Line → Event → List HistoryEntry → Type 0
Continues old new before after_lines event past = ContinuesWith old new before after_lines (part_of old.calls old.made old.moment event) past

-- after any history in which the core stood, and after which this may happen, it is answered as the equations say
abbrev pub ContinuesAny : CoreView → CoreView → List Line → List Line → Happening → Type 0
ContinuesAny old new before after_lines happening = (past : List HistoryEntry) → IsHistoryOf old.calls (workers_of old) past → Stands old past
    → MayCome old.calls (happenings past) happening → ContinuesWith old new before after_lines (happening ∷ []) past

-- a call, a cancel or a purge, which may come before the happening of an event that was counted
abbrev pub comes_before_event : Happening → Bool
comes_before_event h.Call = true
comes_before_event (h.Cancel k) = true
comes_before_event h.Purge = true
comes_before_event _ = false

-- what each single happening leaves: the count of events taken, one task for each submission, and no more lines to come than
-- before, within which its own lines are
pub record Leaves (old new : CoreView) (lines_before lines_after : ℕ) : Type 0 where
  pub taken : new.taken ≡ old.taken
  pub tasks : length new.tasks ≡ task_count new.calls
  pub room : room_of new ≤ room_of old
  pub few : lines_after ≤ lines_before + room_of old

-- lines were added within the room that is given up for them, of which the happening itself takes one
pub record GivesRoom (old new : CoreView) (lines_before lines_after : ℕ) : Type 0 where
  pub lines : lines_after + room_of new ≤ lines_before + room_of old
  pub less : room_of new + 1 ≤ room_of old

-- the number of each run is below the number of events taken, as it is once an event is counted
abbrev pub IsCounted : CoreView → Type 0
IsCounted m = (k : ℕ) → (slice_index_or m.tasks k vacant).run < m.taken

-- the task that a need starts, if any, has a run below the number of events taken
abbrev pub RunsBelowTaken : CoreView → Need → Type 0
RunsBelowTaken m need = (k : ℕ) → need ≡ n.Start k → (slice_index_or m.tasks k vacant).run < m.taken
