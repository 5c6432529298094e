-- What the calls that shut the executor down, set a policy, or ask how far it is answer, as the lines of a trace have it.
-- All of it is this project's rule, but where a source is named.
use Rattle.std.specs.Prelude.{◌≡◌, ℕ, ◌<◌, not, Bool, if◌then◌else◌, List, [], Some, None, is_some}
use Rattle.std.specs.List.{All}
use Rattle.sched_time.specs.Times.{longest}
use Rattle.sched_time.specs.declared.policies.Which.{Which}
use Rattle.queue_code.specs.declared.call.CodeCall.TheVariants as c
use Rattle.queue_code.specs.Calls.{how_many}
use Rattle.executor_model.specs.declared.types.Answer.{Answer}
use Rattle.executor_model.specs.declared.types.Answer.TheVariants as a
use Rattle.executor_model.specs.Answers.{bare, is_terminated}
use Rattle.task_table.specs.declared.seat.Seat.{Seat}
use Rattle.task_table.specs.declared.seat.TaskRef.{TaskRef}
use Rattle.task_table.specs.declared.answers.Asked.{Asked}
use Rattle.task_table.specs.Seats.{slot_of}
use Rattle.task_table.specs.Tables.{TableView}
use Rattle.task_table.specs.Firsts.{queue_in}
use Rattle.task_table.specs.Ends.{IsAscending}
use Rattle.task_table.specs.Endings.{numbers_of}
use Rattle.live_core.specs.declared.error.CallError.{CallError}
use Rattle.live_core.specs.declared.error.CallError.TheVariants as ce
use Rattle.live_core.specs.Lives.{LiveView, Calls, moment_of_call}
use Rattle.live_core.specs.Said.{ending}

-- why such a call is not made: its moment would be too late
abbrev pub IsTooFar : LiveView → ℕ → CallError → Type 0
IsTooFar m at ce.TooFar = longest < moment_of_call m at
IsTooFar m at _ = ⊥

-- the slot of a task held it, and is empty now: nothing comes of it any more
pub record IsGone (old new : TableView) (task : TaskRef) : Type 0 where
  pub seat : Seat
  pub there : slot_of old.slots task.slot ≡ Some seat
  pub named : seat.number ≡ task.number
  pub empty : slot_of new.slots task.slot ≡ None

-- some tasks were ended, ascending by number, and are gone from their slots
pub record AreGone (old new : TableView) (ended : List TaskRef) : Type 0 where
  pub each : All (IsGone old new) ended
  pub ascending : IsAscending (numbers_of ended)

-- a policy is set, as setContinueExistingPeriodicTasksAfterShutdownPolicy, setExecuteExistingDelayedTasksAfterShutdownPolicy and
-- setRemoveOnCancelPolicy of ScheduledThreadPoolExecutor do
abbrev pub Sets : LiveView → LiveView → ℕ → Which → Bool → Type 0
Sets old new at which value = Calls old new (moment_of_call old at, c.SetPolicy which value) (ending (a.Policy which value) new.ended)

-- the answer to an orderly shutdown, which is the first call to shut down or not
abbrev pub shutdown_answer : Bool → Answer
shutdown_answer first = if first then a.Shutdown else a.ShutdownAgain

-- the executor is shut, in order: this says whether it was not shut before
-- (ExecutorService.shutdown, Java SE 17 documentation: "Initiates an orderly shutdown in which previously submitted tasks are executed,
-- but no new tasks will be accepted. Invocation has no additional effect if already shut down.")
pub record ShutsDown (old new : LiveView) (at : ℕ) (is_first : Bool) : Type 0 where
  pub first : is_first ≡ not old.table.shut
  pub makes : Calls old new (moment_of_call old at, c.Shutdown) (ending (shutdown_answer is_first) new.ended)

-- the executor is shut at once
-- (ExecutorService.shutdownNow, Java SE 17 documentation: "Attempts to stop all actively executing tasks, halts the processing of
-- waiting tasks, and returns a list of the tasks that were awaiting execution.")
abbrev pub StopsAtOnce : LiveView → LiveView → ℕ → Type 0
StopsAtOnce old new at = Calls old new (moment_of_call old at, c.ShutdownNow) (ending a.ShutdownNow new.ended)

-- how far the executor is, where a call asks, as getQueue, getActiveCount, isShutdown and isTerminated of ThreadPoolExecutor tell: that
-- ends no task
pub record Asks (old new : LiveView) (at : ℕ) (x : Asked) : Type 0 where
  pub queue : x.queue ≡ queue_in old.table.slots
  pub running : x.running ≡ how_many is_some old.table.work
  pub shutdown : x.shutdown ≡ old.table.shut
  pub ended : new.ended ≡ []
  pub terminated : x.terminated ≡ is_terminated x.shutdown x.queue x.running
  pub makes : Calls old new (moment_of_call old at, c.Ask) (bare (a.Ask x.queue x.running x.shutdown x.terminated))
