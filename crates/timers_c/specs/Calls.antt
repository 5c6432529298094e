-- What the calls of the library do.
-- All of it is this project's rule.
use Rattle.std.specs.Prelude.{◌≡◌, ℕ, ◌+◌, ◌-◌, ◌^◌, ◌<◌, ◌≤◌, ◌==◌, ◌&&◌, Bool, true, false, if◌then◌else◌, List, [], ◌++◌, Option, Some, None, IfSome, length, slice_get}
use Rattle.sched_time.specs.Times.{longest}
use Rattle.sched_time.specs.declared.policies.Policies.{Policies}
use Rattle.sched_time.specs.declared.policies.Which.{Which}
use Rattle.sched_time.specs.declared.policies.Which.TheVariants as w
use Rattle.sched_time.specs.declared.timing.Ending.{Ending}
use Rattle.sched_time.specs.declared.timing.Timing.{Timing}
use Rattle.sched_time.specs.declared.timing.Timing.TheVariants as t
use Rattle.queue_code.specs.Calls.{Planned}
use Rattle.executor_model.specs.declared.task.Task.{Task}
use Rattle.executor_model.specs.declared.types.Answer.TheVariants as a
use Rattle.executor_model.specs.declared.types.CancelEffect.{CancelEffect}
use Rattle.executor_model.specs.declared.types.Outcome.{Outcome}
use Rattle.executor_model.specs.declared.types.Outcome.TheVariants as o
use Rattle.executor_model.specs.Answers.{bare}
use Rattle.executor_model.specs.Counts.{IsLiveWorkerCount}
use Rattle.executor_model.specs.Flows.{lines_at}
use Rattle.executor_model.specs.Histories.{HistoryEntry, happenings}
use Rattle.executor_model.specs.State.{after}
use Rattle.task_table.specs.declared.answers.Asked.{Asked}
use Rattle.task_table.specs.declared.seat.TaskRef.{TaskRef}
use Rattle.task_table.specs.Changes.{grown}
use Rattle.task_table.specs.Firsts.{IsEarliest, IsHead, NoneQueued, NoneWaits}
use Rattle.task_table.specs.Seats.{waits, is_running_in}
use Rattle.task_table.specs.Tables.{workers_of}
use Rattle.live_core.specs.declared.answers.Submitted.{Submitted}
use Rattle.live_core.specs.declared.answers.Submitted.TheVariants as su
use Rattle.live_core.specs.declared.error.CallError.{CallError}
use Rattle.live_core.specs.declared.error.CallError.TheVariants as ce
use Rattle.live_core.specs.Cancels.{CancelsOutside}
use Rattle.live_core.specs.Purges as purges
use Rattle.live_core.specs.Lives.{LiveView, Stands, Stays, StaysQuiet, moment_of_call}
use Rattle.live_core.specs.Said.{IsSubmitError, IsPeriodicError, alive_in, ending, submit_reply, tasks_in}
use Rattle.live_core.specs.Shutting.{AreGone, Asks, Sets, ShutsDown, StopsAtOnce, shutdown_answer}
use Rattle.timers.specs.declared.answers.Finished.{Finished}
use Rattle.timers.specs.declared.answers.Run as begun
use Rattle.timers.specs.declared.error.FinishError.TheVariants as fe
use Rattle.timers.specs.declared.error.PollError.{PollError}
use Rattle.timers.specs.declared.error.PollError.TheVariants as pe
use Rattle.timers.specs.Calls as timers
use Rattle.timers.specs.Calls.{Polls, IsPollError, Finishes, IsFinishError, run_reply, shown}
use Rattle.timers.specs.Timers.{Gives, GivesNone, WasGivenWith, WereGiven}
use Rattle.timers_c.specs.declared.refs.Gone.{Gone}
use Rattle.timers_c.specs.declared.refs.Ref.{Ref}
use Rattle.timers_c.specs.declared.runs.End.{End}
use Rattle.timers_c.specs.declared.runs.Run.{Run}
use Rattle.timers_c.specs.declared.state.Counts.{Counts}
use Rattle.timers_c.specs.declared.state.Phase.{Phase}
use Rattle.timers_c.specs.declared.state.Phase.TheVariants as p
use Rattle.timers_c.specs.declared.state.State.{State}
use Rattle.timers_c.specs.declared.state.TaskState.{TaskState}
use Rattle.timers_c.specs.declared.status.Status.{Status}
use Rattle.timers_c.specs.declared.status.Status.TheVariants as s
use Rattle.timers_c.specs.Numbers.{number_of_bool, number_of_effect, number_of_outcome, number_of_phase, number_of_policy, number_of_status}
use Rattle.timers_c.specs.Seen.{Seen}

-- what a slot holds: timers with the lines of the last call that was taken, or nothing
abbrev pub holding : Bool → Seen → Option Seen
holding true value = Some value
holding false value = None

-- a call answers the number of a status, of which this holds
abbrev pub Answers : ℕ → (Status → Type 0) → Type 0
Answers answer Holds = (status : Status) × (answer ≡ number_of_status status) × Holds status

-- a task, by the number of its submission and its slot
abbrev pub ref_of : TaskRef → Ref
ref_of task = record { number = task.number; slot = task.slot }

-- no task
abbrev pub no_ref : Ref
no_ref = record { number = 0; slot = 0 }

-- ---- making and freeing

-- timers before anything happened, for so many workers: there are no slots, and no lines
pub record Opens (seen : Seen) (workers : ℕ) : Type 0 where
  pub range : IsLiveWorkerCount workers
  pub size : workers_of seen.timers.live.table ≡ workers
  pub stands : Stands seen.timers.live [] []
  pub given : WereGiven seen.timers []
  pub slots : seen.timers.live.table.slots ≡ []
  pub earliest : seen.timers.live.earliest ≡ 0
  pub ended : seen.timers.live.ended ≡ []
  pub lines : seen.lines ≡ []

-- what the making of timers for so many workers came to, with what the slot held before and after
abbrev pub Makes : Status → ℕ → Option Seen → Option Seen → Type 0
Makes s.Done workers None (Some new) = Opens new workers
Makes s.HasTimers workers (Some old) (Some new) = new ≡ old
Makes s.Workers workers None None = IsLiveWorkerCount workers → ⊥
Makes s.NoMemory workers None None = IsLiveWorkerCount workers
Makes _ workers old new = ⊥

-- what the freeing of timers came to
abbrev pub Frees : Status → Option Seen → Option Seen → Type 0
Frees s.Done (Some old) None = Unit {0}
Frees s.NoTimers None None = Unit {0}
Frees _ old new = ⊥

-- there are at least so many slots; all else is as it was, and so are the lines
pub record Grows (old new : Seen) (tasks : ℕ) : Type 0 where
  pub live : new.timers.live ≡ record old.timers.live { table = grown old.timers.live.table tasks }
  pub stands : (calls : List Planned) (past : List HistoryEntry) → Stands old.timers.live calls past → Stands new.timers.live calls past
  pub keeps : GivesNone old.timers new.timers
  pub lines : new.lines ≡ old.lines

-- what the asking for so many slots came to
abbrev pub Reserves : Status → ℕ → Option Seen → Option Seen → Type 0
Reserves s.Done tasks (Some old) (Some new) = Grows old new tasks
Reserves s.NoMemory tasks (Some old) (Some new) = (length old.timers.live.table.slots < tasks) × (new ≡ old)
Reserves s.NoTimers tasks None None = Unit {0}
Reserves _ tasks old new = ⊥

-- ---- submissions

-- the slot that a ref of a submission that is rejected has
abbrev pub no_slot : ℕ
no_slot = 2 ^ 32 - 1

-- the ref of a submission
abbrev pub ref_of_submitted : Submitted → Ref
ref_of_submitted (su.Accepted task due) = ref_of task
ref_of_submitted (su.Rejected number) = record { number = number; slot = no_slot }

-- a period, or a fixed delay, is not 0
abbrev pub IsLegal : Timing → Type 0
IsLegal t.Once = Unit {0}
IsLegal (t.Rate period) = 0 < period
IsLegal (t.Fixed delay) = 0 < delay

-- why a submission of this timing, whose first run is due so long after the moment of the call, is none
abbrev pub IsRefused : LiveView → ℕ → Timing → ℕ → CallError → Type 0
IsRefused m now t.Once first error = IsSubmitError m now t.Once first error
IsRefused m now (t.Rate period) first error = IsPeriodicError period m now (t.Rate period) first error
IsRefused m now (t.Fixed delay) first error = IsPeriodicError delay m now (t.Fixed delay) first error

-- a submission is made, with these data; the line is that of its answer
pub record Submits (old new : Seen) (now : ℕ) (timing : Timing) (first user_data : ℕ) (submitted : Submitted) : Type 0 where
  pub legal : IsLegal timing
  pub makes : timers.Submits old.timers.live new.timers.live now timing first submitted
  pub gives : Gives old.timers new.timers user_data
  pub stays : StaysQuiet old.timers.live new.timers.live (old.timers.live.count + 1)
  pub lines : new.lines ≡ lines_at new.timers.live.table.moment (submit_reply timing submitted)

-- what a submission came to, with the ref that was written
abbrev pub TakesSubmission : Status → ℕ → Timing → ℕ → ℕ → Ref → Option Seen → Option Seen → Type 0
TakesSubmission s.Done now timing first user_data ref (Some old) (Some new) =
    (task : TaskRef) × (due : ℕ) × Submits old new now timing first user_data (su.Accepted task due) × (ref ≡ ref_of_submitted (su.Accepted task due))
TakesSubmission s.Shut now timing first user_data ref (Some old) (Some new) =
    (number : ℕ) × Submits old new now timing first user_data (su.Rejected number) × (ref ≡ ref_of_submitted (su.Rejected number))
TakesSubmission s.Illegal now timing first user_data ref (Some old) (Some new) = IsRefused old.timers.live now timing first ce.Illegal × (new ≡ old) × (ref ≡ no_ref)
TakesSubmission s.TooLong now timing first user_data ref (Some old) (Some new) = IsRefused old.timers.live now timing first ce.TooLong × (new ≡ old) × (ref ≡ no_ref)
TakesSubmission s.TooFar now timing first user_data ref (Some old) (Some new) = IsRefused old.timers.live now timing first ce.TooFar × (new ≡ old) × (ref ≡ no_ref)
TakesSubmission s.Full now timing first user_data ref (Some old) (Some new) = IsRefused old.timers.live now timing first ce.Full × (new ≡ old) × (ref ≡ no_ref)
TakesSubmission s.NoMemory now timing first user_data ref (Some old) (Some new) = IsRefused old.timers.live now timing first ce.Memory × (new ≡ old) × (ref ≡ no_ref)
TakesSubmission s.NoTimers now timing first user_data ref None None = ref ≡ no_ref
TakesSubmission _ now timing first user_data ref old new = ⊥

-- ---- cancels and purges

-- a cancel of the task of a number is made, with this effect; the line is that of its answer
pub record Cancels (old new : Seen) (number : ℕ) (effect : CancelEffect) : Type 0 where
  pub makes : CancelsOutside old.timers.live new.timers.live number effect
  pub keeps : GivesNone old.timers new.timers
  pub stays : StaysQuiet old.timers.live new.timers.live old.timers.live.count
  pub user_data : new.timers.user_data ≡ old.timers.user_data
  pub lines : new.lines ≡ lines_at new.timers.live.table.moment (bare (a.Outside number effect))

-- what a cancel came to, with the effect that was written
abbrev pub TakesCancel : Status → Ref → ℕ → Option Seen → Option Seen → Type 0
TakesCancel s.Done task written (Some old) (Some new) = (effect : CancelEffect) × Cancels old new task.number effect × (written ≡ number_of_effect effect)
TakesCancel s.NoTask task written (Some old) (Some new) = (old.timers.live.count ≤ task.number) × (new ≡ old) × (written ≡ 0)
TakesCancel s.NoTimers task written None None = written ≡ 0
TakesCancel _ task written old new = ⊥

-- a purge is made; the line is that of its answer
pub record Purges (old new : Seen) : Type 0 where
  pub makes : purges.Purges old.timers.live new.timers.live
  pub keeps : GivesNone old.timers new.timers
  pub stays : StaysQuiet old.timers.live new.timers.live old.timers.live.count
  pub user_data : new.timers.user_data ≡ old.timers.user_data
  pub lines : new.lines ≡ lines_at new.timers.live.table.moment (bare a.Purge)

-- what a purge came to
abbrev pub TakesPurge : Status → Option Seen → Option Seen → Type 0
TakesPurge s.Done (Some old) (Some new) = Purges old new
TakesPurge s.NoTimers None None = Unit {0}
TakesPurge _ old new = ⊥

-- ---- runs

-- no run
abbrev pub no_run : Run
no_run = record { task = no_ref; run = 0; due = 0; user_data = 0; worker = 0 }

-- a run that a worker has begun
abbrev pub run_of : ℕ → begun.Run → Run
run_of worker r = record { task = ref_of r.task; run = r.run; due = r.due; user_data = r.user_data; worker = worker }

-- a worker polls, and begins this run or none. The lines are that of the clock, at the moment that it shows, and that of the answer
pub record Begins (old new : Seen) (now worker : ℕ) (run : Option begun.Run) : Type 0 where
  pub polls : Polls old.timers.live new.timers.live now worker run
  pub given : IfSome run (λ r. WasGivenWith old.timers r.task.number r.user_data)
  pub keeps : GivesNone old.timers new.timers
  pub user_data : new.timers.user_data ≡ old.timers.user_data
  pub lines : new.lines ≡ lines_at (shown old.timers.live now) (bare a.Clock) ++ lines_at new.timers.live.table.moment (run_reply worker run)

-- a worker polls, and no number is left for the run of the first task that is due. The line is that of the clock
pub record BeginsPast (old new : Seen) (now worker : ℕ) : Type 0 where
  pub full : IsPollError old.timers.live new.timers.live now worker pe.Full
  pub keeps : GivesNone old.timers new.timers
  pub user_data : new.timers.user_data ≡ old.timers.user_data
  pub lines : new.lines ≡ lines_at (shown old.timers.live now) (bare a.Clock)

-- why a poll begins no run, where some run may be due
abbrev pub FailsToBegin : Seen → Seen → ℕ → ℕ → PollError → Type 0
FailsToBegin old new now worker pe.Full = BeginsPast old new now worker
FailsToBegin old new now worker error = IsPollError old.timers.live new.timers.live now worker error × (new ≡ old)

-- what a poll came to, with the run that was written
abbrev pub TakesPoll : Status → ℕ → ℕ → Run → Option Seen → Option Seen → Type 0
TakesPoll s.Done now worker run (Some old) (Some new) = (r : begun.Run) × Begins old new now worker (Some r) × (run ≡ run_of worker r)
TakesPoll s.Idle now worker run (Some old) (Some new) = Begins old new now worker None × (run ≡ no_run)
TakesPoll s.Full now worker run (Some old) (Some new) = FailsToBegin old new now worker pe.Full × (run ≡ no_run)
TakesPoll s.NoWorker now worker run (Some old) (Some new) = FailsToBegin old new now worker pe.NoWorker × (run ≡ no_run)
TakesPoll s.Busy now worker run (Some old) (Some new) = FailsToBegin old new now worker pe.Busy × (run ≡ no_run)
TakesPoll s.TooFar now worker run (Some old) (Some new) = FailsToBegin old new now worker pe.TooFar × (run ≡ no_run)
TakesPoll s.NoTimers now worker run None None = run ≡ no_run
TakesPoll _ now worker run old new = ⊥

-- no end of a run
abbrev pub no_end : End
no_end = record { task = no_ref; run = 0; user_data = 0; value = 0; outcome = 0 }

-- the value of a run that is done, the code of one that failed, and the moment at which the next one is due
abbrev pub value_of : Outcome → ℕ
value_of (o.Done value) = value
value_of (o.Failed code) = code
value_of (o.Again next) = next
value_of _ = 0

-- a run that has ended
abbrev pub end_of : Finished → End
end_of f = record { task = ref_of f.task; run = f.run; user_data = f.user_data; value = value_of f.outcome; outcome = number_of_outcome f.outcome }

-- a worker has ended this run. The lines are that of the clock, at the moment that it shows, and that of the answer
pub record EndsRun (old new : Seen) (now worker : ℕ) (ending : Ending) (f : Finished) : Type 0 where
  pub finishes : Finishes old.timers.live new.timers.live now worker ending f
  pub given : WasGivenWith old.timers f.task.number f.user_data
  pub keeps : GivesNone old.timers new.timers
  pub lines : new.lines ≡ lines_at (shown old.timers.live now) (bare a.Clock)
      ++ lines_at new.timers.live.table.moment (bare (a.Finish worker f.task.number f.run f.outcome))

-- what the end of a run came to, with the end that was written
abbrev pub TakesFinish : Status → ℕ → ℕ → Ending → End → Option Seen → Option Seen → Type 0
TakesFinish s.Done now worker ending end (Some old) (Some new) = (f : Finished) × EndsRun old new now worker ending f × (end ≡ end_of f)
TakesFinish s.NoWorker now worker ending end (Some old) (Some new) = IsFinishError old.timers.live now worker fe.NoWorker × (new ≡ old) × (end ≡ no_end)
TakesFinish s.NotRunning now worker ending end (Some old) (Some new) = IsFinishError old.timers.live now worker fe.NotRunning × (new ≡ old) × (end ≡ no_end)
TakesFinish s.TooFar now worker ending end (Some old) (Some new) = IsFinishError old.timers.live now worker fe.TooFar × (new ≡ old) × (end ≡ no_end)
TakesFinish s.NoTimers now worker ending end None None = end ≡ no_end
TakesFinish _ now worker ending end old new = ⊥

-- ---- policies, shutting down and asking

-- the policy of a number
abbrev pub IsPolicy : ℕ → Which → Type 0
IsPolicy number which = number ≡ number_of_policy which

-- no policy has this number
abbrev pub IsNoPolicy : ℕ → Type 0
IsNoPolicy number = (which : Which) → IsPolicy number which → ⊥

-- a call that may end tasks leaves each one that is alive in its slot, and each with its own data; those that it ended are gone
pub record Sweeps (old new : Seen) : Type 0 where
  pub keeps : GivesNone old.timers new.timers
  pub gone : AreGone old.timers.live.table new.timers.live.table new.timers.live.ended
  pub stays : Stays old.timers.live new.timers.live old.timers.live.count

-- the moment of a call is above the limit
abbrev pub IsFar : Seen → ℕ → Type 0
IsFar m now = longest < moment_of_call m.timers.live now

-- a policy is set; the lines are that of the answer, and one of each task that was ended
pub record SetsPolicy (old new : Seen) (now : ℕ) (which : Which) (value : Bool) : Type 0 where
  pub near : moment_of_call old.timers.live now ≤ longest
  pub makes : Sets old.timers.live new.timers.live now which value
  pub sweeps : Sweeps old new
  pub lines : new.lines ≡ lines_at new.timers.live.table.moment (ending (a.Policy which value) new.timers.live.ended)

-- what the setting of a policy came to
abbrev pub TakesPolicy : Status → ℕ → ℕ → Bool → Option Seen → Option Seen → Type 0
TakesPolicy s.Done now policy value (Some old) (Some new) = (which : Which) × IsPolicy policy which × SetsPolicy old new now which value
TakesPolicy s.Illegal now policy value (Some old) (Some new) = IsNoPolicy policy × (new ≡ old)
TakesPolicy s.TooFar now policy value (Some old) (Some new) = (which : Which) × IsPolicy policy which × IsFar old now × (new ≡ old)
TakesPolicy s.NoTimers now policy value None None = Unit {0}
TakesPolicy _ now policy value old new = ⊥

-- the timers are shut, in order; the lines are that of the answer, and one of each task that was ended
pub record Shuts (old new : Seen) (now : ℕ) (first : Bool) : Type 0 where
  pub near : moment_of_call old.timers.live now ≤ longest
  pub makes : ShutsDown old.timers.live new.timers.live now first
  pub sweeps : Sweeps old new
  pub lines : new.lines ≡ lines_at new.timers.live.table.moment (ending (shutdown_answer first) new.timers.live.ended)

-- what an orderly shutdown came to, with what was written
abbrev pub TakesShutdown : Status → ℕ → ℕ → Option Seen → Option Seen → Type 0
TakesShutdown s.Done now written (Some old) (Some new) = (first : Bool) × Shuts old new now first × (written ≡ number_of_bool first)
TakesShutdown s.TooFar now written (Some old) (Some new) = IsFar old now × (new ≡ old) × (written ≡ 0)
TakesShutdown s.NoTimers now written None None = written ≡ 0
TakesShutdown _ now written old new = ⊥

-- the timers are shut at once; the lines are that of the answer, and one of each task that was ended
pub record Stops (old new : Seen) (now : ℕ) : Type 0 where
  pub near : moment_of_call old.timers.live now ≤ longest
  pub makes : StopsAtOnce old.timers.live new.timers.live now
  pub sweeps : Sweeps old new
  pub lines : new.lines ≡ lines_at new.timers.live.table.moment (ending a.ShutdownNow new.timers.live.ended)

-- what a shutdown at once came to
abbrev pub TakesShutdownNow : Status → ℕ → Option Seen → Option Seen → Type 0
TakesShutdownNow s.Done now (Some old) (Some new) = Stops old new now
TakesShutdownNow s.TooFar now (Some old) (Some new) = IsFar old now × (new ≡ old)
TakesShutdownNow s.NoTimers now None None = Unit {0}
TakesShutdownNow _ now old new = ⊥

-- no counts
abbrev pub no_counts : Counts
no_counts = record { queue = 0; running = 0; shut = 0; terminated = 0 }

-- what a call that asks was answered
abbrev pub counts_of : Asked → Counts
counts_of asked = record { queue = asked.queue; running = asked.running; shut = number_of_bool asked.shutdown; terminated = number_of_bool asked.terminated }

-- a call asks; the line is that of the answer
pub record AsksTimers (old new : Seen) (now : ℕ) (asked : Asked) : Type 0 where
  pub near : moment_of_call old.timers.live now ≤ longest
  pub makes : Asks old.timers.live new.timers.live now asked
  pub keeps : GivesNone old.timers new.timers
  pub stays : StaysQuiet old.timers.live new.timers.live old.timers.live.count
  pub lines : new.lines ≡ lines_at new.timers.live.table.moment (bare (a.Ask asked.queue asked.running asked.shutdown asked.terminated))

-- what a call that asks came to, with what was written
abbrev pub TakesAsk : Status → ℕ → Counts → Option Seen → Option Seen → Type 0
TakesAsk s.Done now counts (Some old) (Some new) = (asked : Asked) × AsksTimers old new now asked × (counts ≡ counts_of asked)
TakesAsk s.TooFar now counts (Some old) (Some new) = IsFar old now × (new ≡ old) × (counts ≡ no_counts)
TakesAsk s.NoTimers now counts None None = counts ≡ no_counts
TakesAsk _ now counts old new = ⊥

-- ---- reading

-- what the asking for the moment at which the first task that waits is due came to
abbrev pub ReadsDue : Status → ℕ → Option Seen → Option Seen → Type 0
ReadsDue s.Done due (Some old) (Some new) = (new ≡ old) × IsEarliest old.timers.live.table due
ReadsDue s.Idle due (Some old) (Some new) = (new ≡ old) × NoneWaits old.timers.live.table × (due ≡ 0)
ReadsDue s.NoTimers due None None = due ≡ 0
ReadsDue _ due old new = ⊥

-- what the asking for the due moment of the head of the queue came to
abbrev pub ReadsHead : Status → ℕ → Option Seen → Option Seen → Type 0
ReadsHead s.Done due (Some old) (Some new) = (new ≡ old) × IsHead old.timers.live.table due
ReadsHead s.Idle due (Some old) (Some new) = (new ≡ old) × NoneQueued old.timers.live.table × (due ≡ 0)
ReadsHead s.NoTimers due None None = due ≡ 0
ReadsHead _ due old new = ⊥

-- how far a task is: a run of it is under way, it waits for one, or is kept in the queue; or nothing comes of it any more
abbrev pub phase_of : Task → Phase
phase_of t = if is_running_in t.phase then p.Running else (if waits t then p.Waiting else (if t.kept then p.Kept else p.Gone))

-- no task
abbrev pub no_task : TaskState
no_task = record { run = 0; due = 0; phase = 0; cancelled = 0 }

-- the numbers of a task in a phase
abbrev pub task_state_in : Phase → Task → TaskState
task_state_in p.Gone t = no_task
task_state_in phase t = record { run = t.run; due = t.due; phase = number_of_phase phase; cancelled = number_of_bool t.cancelled }

-- the numbers of a task
abbrev pub task_state_of : Task → TaskState
task_state_of t = task_state_in (phase_of t) t

-- whatever calls and history led here, the task of this number is so
abbrev pub IsTaskState : LiveView → ℕ → TaskState → Type 0
IsTaskState m number state =
    (calls : List Planned) (past : List HistoryEntry) → Stands m calls past → state ≡ task_state_of ((after calls (workers_of m.table) (happenings past)).tasks number)

-- what the asking how far a task is came to
abbrev pub ReadsTask : Status → Ref → TaskState → Option Seen → Option Seen → Type 0
ReadsTask s.Done task state (Some old) (Some new) = (new ≡ old) × (task.number < old.timers.live.count) × IsTaskState old.timers.live task.number state
ReadsTask s.NoTask task state (Some old) (Some new) = (new ≡ old) × (old.timers.live.count ≤ task.number) × (state ≡ no_task)
ReadsTask s.NoTimers task state None None = state ≡ no_task
ReadsTask _ task state old new = ⊥

-- the bit of a policy, where it is true
abbrev pub bit_of : Which → Bool → ℕ
bit_of which value = if value then 2 ^ number_of_policy which else 0

-- the bits of the policies
abbrev pub bits_of : Policies → ℕ
bits_of policies = bit_of w.Continue policies.continues + bit_of w.Execute policies.executes + bit_of w.Remove policies.removes

-- how far no timers are
abbrev pub no_state : State
no_state = record { now = 0; numbers = 0; alive = 0; ended = 0; lines = 0; policies = 0; shut = 0; terminated = 0 }

-- how far timers are
abbrev pub state_of : Seen → State
state_of m = record {
  now = m.timers.live.table.moment;
  numbers = m.timers.live.count;
  alive = alive_in m.timers.live.table.slots;
  ended = length m.timers.live.ended;
  lines = length m.lines;
  policies = bits_of m.timers.live.table.policies;
  shut = number_of_bool m.timers.live.table.shut;
  terminated = number_of_bool (m.timers.live.table.shut && (alive_in m.timers.live.table.slots == 0));
}

-- what the asking how far timers are came to: as many tasks are alive as have a slot
abbrev pub Reads : Status → State → Option Seen → Option Seen → Type 0
Reads s.Done state (Some old) (Some new) = (new ≡ old) × (state ≡ state_of old) × (tasks_in old.timers.live.table.slots ≡ state.alive)
Reads s.NoTimers state None None = state ≡ no_state
Reads _ state old new = ⊥

-- no task that was ended
abbrev pub no_gone : Gone
no_gone = record { task = no_ref; user_data = 0 }

-- the task at a place of those that the last call ended, with what was given with its submission
abbrev pub IsEndedAt : Seen → ℕ → Gone → Type 0
IsEndedAt m place gone =
    (task : TaskRef) × (slice_get m.timers.live.ended place ≡ Some task) × WasGivenWith m.timers task.number gone.user_data × (gone.task ≡ ref_of task)

-- what the asking for the task at a place of those that the last call ended came to
abbrev pub ReadsEnded : Status → ℕ → Gone → Option Seen → Option Seen → Type 0
ReadsEnded s.Done place gone (Some old) (Some new) = (new ≡ old) × IsEndedAt old place gone
ReadsEnded s.Idle place gone (Some old) (Some new) = (new ≡ old) × (length old.timers.live.ended ≤ place) × (gone ≡ no_gone)
ReadsEnded s.NoTimers place gone None None = gone ≡ no_gone
ReadsEnded _ place gone old new = ⊥
