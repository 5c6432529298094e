-- What the calls of the library do.
-- All of it is this project's rule.
use Rattle.std.specs.Prelude.{◌≡◌, ℕ, ◌+◌, ◌-◌, ◌^◌, ◌<◌, ◌≤◌, ◌↔◌, ◌⊎◌, Bool, true, false, List, [], Option, Some, None, length, drop, map, slice_get, option_and_then}
use Rattle.task_word.specs.Words.{Parts}
use Rattle.queue_code.specs.Calls.{task_count}
use Rattle.plan_read.specs.declared.faults.PlanFault.{PlanFault}
use Rattle.plan_read.specs.Plans.{PlanTree}
use Rattle.plan_read.specs.Texts.{TextFails, TextWrites}
use Rattle.executor_model.specs.declared.types.Event.{Event}
use Rattle.executor_model.specs.declared.types.Answer.TheVariants as a
use Rattle.executor_model.specs.declared.types.Line.{Line}
use Rattle.executor_model.specs.declared.types.Message.{Message}
use Rattle.executor_model.specs.declared.types.Message.TheVariants as m
use Rattle.executor_model.specs.Counts.{IsWorkerCount}
use Rattle.executor_core.specs.CoreView.{workers_of, state_of, Steps, Stands, Continues, ErrorOnlyCounts}
use Rattle.executor_model.specs.Flows.{part_of}
use Rattle.executor_model.specs.Histories.{HistoryEntry, IsHistoryOf}
use Rattle.executor_model.specs.Needs.{IsRipe}
use Rattle.executor_model.specs.State.{view_of_state}
use Rattle.executor_model.specs.Tasks.{word_of_task}
use Rattle.line_copy.specs.declared.copied.Copied.{Copied}
use Rattle.line_copy.specs.Copying.{IsCopied}
use Rattle.sched_engine.specs.Cores.{Opens}
use Rattle.sched_engine.specs.Running.{RefusesToRun}
use Rattle.sched_engine.specs.declared.report.OpenError.{OpenError}
use Rattle.sched_engine.specs.declared.report.OpenError.TheVariants as x
use Rattle.sched_c.specs.declared.fault.Fault.{Fault}
use Rattle.sched_c.specs.declared.status.Status.{Status}
use Rattle.sched_c.specs.declared.status.Status.TheVariants as s
use Rattle.sched_c.specs.declared.started.Started.{Started}
use Rattle.sched_c.specs.declared.state.State.{State}
use Rattle.sched_c.specs.declared.state.TaskState.{TaskState}
use Rattle.sched_c.specs.Faults.{fault_of, no_fault}
use Rattle.sched_c.specs.Numbers.{number_of_status, number_of_phase, number_of_bool}
use Rattle.sched_c.specs.Seen.{Seen}

-- what a slot holds: an executor with the lines of its last event, or nothing
abbrev pub holding : Bool → Seen → Option Seen
holding true value = Some value
holding false value = None

-- a call answers the number of a status, of which this holds
abbrev pub Answers : ℕ → (Status → Type 0) → Type 0
Answers answer Holds = (status : Status) × (answer ≡ number_of_status status) × Holds status

-- ---- making and freeing

-- no executor takes so many events
abbrev pub IsNoLimit : ℕ → Type 0
IsNoLimit limit = (limit ≡ 0) ⊎ (2 ^ 32 ≤ limit)

-- why there is no executor for a text and these numbers, the plan first, then the workers, then the limit
abbrev pub Refuses : OpenError → List ℕ → ℕ → ℕ → Type 0
Refuses x.Limit text workers limit = (plan : PlanTree) × TextWrites text plan × IsWorkerCount workers × IsNoLimit limit
Refuses error text workers limit = RefusesToRun error text workers limit

-- what the making of an executor of a plan's text came to, with the fault that it gave and what the slot held before and after.
-- Want of memory says nothing of the text. The plan is looked at before the workers, and these before the limit
abbrev pub Makes : Status → List ℕ → ℕ → ℕ → Fault → Option Seen → Option Seen → Type 0
Makes s.Done text workers limit fault None (Some new) = Opens new.core text workers limit × (new.lines ≡ []) × (fault ≡ no_fault)
Makes s.HasExecutor text workers limit fault (Some old) (Some new) = (new ≡ old) × (fault ≡ no_fault)
Makes s.NoPlan text workers limit fault None None = (found : PlanFault) × TextFails text found × (fault ≡ fault_of found)
Makes s.Workers text workers limit fault None None = Refuses x.Workers text workers limit × (fault ≡ no_fault)
Makes s.Limit text workers limit fault None None = Refuses x.Limit text workers limit × (fault ≡ no_fault)
Makes s.NoMemory text workers limit fault None None = fault ≡ no_fault
Makes _ text workers limit fault old new = ⊥

-- what the freeing of an executor came to
abbrev pub Frees : Status → Option Seen → Option Seen → Type 0
Frees s.Done (Some old) None = Unit {0}
Frees s.NoExecutor None None = Unit {0}
Frees _ old new = ⊥

-- ---- events

-- an executor took an event, and the lines are those that answer it
pub record Takes (old new : Seen) (event : Event) : Type 0 where
  pub below : old.core.taken < old.core.limit
  pub taken : new.core.taken ≡ old.core.taken + 1
  pub steps : Steps old.core new.core [] new.lines (part_of old.core.calls old.core.made old.core.moment event)
  pub errors : ErrorOnlyCounts old.core new.core [] new.lines event
  pub history : (past : List HistoryEntry) → IsHistoryOf old.core.calls (workers_of old.core) past → Stands old.core past
      → Continues old.core new.core [] new.lines event past

-- what an event came to
abbrev pub TakesEvent : Status → Event → Option Seen → Option Seen → Type 0
TakesEvent s.Done event (Some old) (Some new) = Takes old new event
TakesEvent s.Full event (Some old) (Some new) = (old.core.taken ≡ old.core.limit) × (new ≡ old)
TakesEvent s.NoExecutor event None None = Unit {0}
TakesEvent _ event old new = ⊥

-- what an event that names a worker which no event can name came to
abbrev pub RefusesWorker : Status → Option Seen → Option Seen → Type 0
RefusesWorker s.NoWorker (Some old) (Some new) = new ≡ old
RefusesWorker s.NoExecutor None None = Unit {0}
RefusesWorker _ old new = ⊥

-- what an event of a worker came to: events name workers below 256
abbrev pub TakesEventOf : ℕ → Status → Event → Option Seen → Option Seen → Type 0
TakesEventOf worker status event old new =
    ((worker < 256) × TakesEvent status event old new) ⊎ ((256 ≤ worker) × RefusesWorker status old new)

-- ---- reading

-- what the copying of the text of the lines came to, from the one of this number on, counted from 0
abbrev pub Copies : Status → ℕ → List ℕ → List ℕ → Copied → Option Seen → Option Seen → Type 0
Copies s.Done from before after copied (Some old) (Some new) = (new ≡ old) × IsCopied (drop from old.lines) before after copied
Copies s.NoExecutor from before after copied None None = (after ≡ before) × (copied ≡ record { lines = 0; bytes = 0 })
Copies _ from before after copied old new = ⊥

-- how far an executor is
pub record IsStateOf (seen : Seen) (state : State) : Type 0 where
  pub now : state.now ≡ seen.core.moment
  pub taken : state.taken ≡ seen.core.taken
  pub tasks : state.tasks ≡ task_count seen.core.calls
  pub lines : state.lines ≡ length seen.lines
  -- the due moment of some task that waits or is kept is reached
  pub ripe : (state.ripe ≡ 1) ↔ IsRipe seen.core.calls (view_of_state seen.core.calls (state_of seen.core))
  pub unripe : state.ripe ≤ 1

-- what the asking how far an executor is came to
abbrev pub Reads : Status → State → Option Seen → Option Seen → Type 0
Reads s.Done state (Some old) (Some new) = (new ≡ old) × IsStateOf old state
Reads s.NoExecutor state None None = state ≡ record { now = 0; taken = 0; tasks = 0; lines = 0; ripe = 0 }
Reads _ state old new = ⊥

-- the numbers of a task's word
abbrev pub task_state_of : Parts → TaskState
task_state_of word = record { phase = number_of_phase word.phase; run = word.run; cancelled = number_of_bool word.marked }

-- no task
abbrev pub no_task : TaskState
no_task = record { phase = 0; run = 0; cancelled = 0 }

-- what the asking how far the task of a number is came to
abbrev pub ReadsTask : Status → ℕ → TaskState → Option Seen → Option Seen → Type 0
ReadsTask s.Done task state (Some old) (Some new) =
    (new ≡ old) × ((word : Parts) × (slice_get (map word_of_task old.core.tasks) task ≡ Some word) × (state ≡ task_state_of word))
ReadsTask s.UnknownTask task state (Some old) (Some new) = (new ≡ old) × (task_count old.core.calls ≤ task) × (state ≡ no_task)
ReadsTask s.NoExecutor task state None None = state ≡ no_task
ReadsTask _ task state old new = ⊥

-- the run that a message says was started
abbrev pub start_in : Message → Option Started
start_in (m.Answer (a.Start worker task run due)) = Some (record { run = run; due = due; task = task; worker = worker })
start_in _ = None

-- the run that the last of some lines says was started
abbrev pub last_start : List Line → Option Started
last_start lines = option_and_then (λ (line : Line). start_in line.message) (slice_get lines (length lines - 1))

-- no run
abbrev pub no_start : Started
no_start = record { run = 0; due = 0; task = 0; worker = 0 }

-- what the asking which run the last event started came to
abbrev pub ReadsStart : Status → Started → Option Seen → Option Seen → Type 0
ReadsStart s.Done started (Some old) (Some new) = (new ≡ old) × (last_start old.lines ≡ Some started)
ReadsStart s.NotStarted started (Some old) (Some new) = (new ≡ old) × (last_start old.lines ≡ None) × (started ≡ no_start)
ReadsStart s.NoExecutor started None None = started ≡ no_start
ReadsStart _ started old new = ⊥
