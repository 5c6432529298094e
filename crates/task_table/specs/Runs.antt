-- What the calls of a table say: of the clock, of the workers' starts and finishes, and of kept tasks that are dropped.
-- All of it is this project's rule, but where a source is named.
use Rattle.std.specs.Prelude.{◌≡◌, Bool, ℕ, ◌+◌, ◌-◌, ◌^◌, ◌<◌, ◌≤◌, true, false, Option, Some, None, slice_index_or}
use Rattle.sched_time.specs.Times.{longest}
use Rattle.sched_time.specs.declared.timing.Ending.{Ending}
use Rattle.executor_model.specs.declared.types.EventError.{EventError}
use Rattle.executor_model.specs.declared.types.EventError.TheVariants as x
use Rattle.executor_model.specs.declared.types.Happening.TheVariants as h
use Rattle.executor_model.specs.declared.types.Outcome.{Outcome}
use Rattle.executor_model.specs.declared.types.Outcome.TheVariants as o
use Rattle.executor_model.specs.declared.types.Answer.TheVariants as a
use Rattle.executor_model.specs.Answers.{bare, outcome_in, stops_periodic}
use Rattle.executor_model.specs.State.{due_past}
use Rattle.task_table.specs.declared.seat.Seat.{Seat}
use Rattle.task_table.specs.declared.answers.Begun.{Begun}
use Rattle.task_table.specs.declared.answers.Ended.{Ended}
use Rattle.task_table.specs.declared.answers.RunEnd.{RunEnd}
use Rattle.task_table.specs.declared.answers.StartError.{StartError}
use Rattle.task_table.specs.declared.answers.StartError.TheVariants as e
use Rattle.task_table.specs.Seats.{task_in, slot_of, waits, is_alive, is_running_in}
use Rattle.task_table.specs.Tables.{TableView, workers_of, EventSteps, EventStepsBefore}
use Rattle.task_table.specs.Firsts.{IsFirstDue, NoneDue, kept_in}
use Rattle.task_table.specs.Changes.{put, started, ended, finished, unkept}

-- there is this worker, and it has no run under way
abbrev pub IsFree : TableView → ℕ → Type 0
IsFree m worker = (worker < workers_of m) × (slice_index_or m.work worker None ≡ None)

-- why a start by this worker is refused: there is no such worker, or it has a run under way
abbrev pub IsStartError : TableView → ℕ → EventError → Type 0
IsStartError m worker x.NoWorker = workers_of m ≤ worker
IsStartError m worker x.Busy = (slot : ℕ) × (slice_index_or m.work worker None ≡ Some slot)
IsStartError m worker _ = ⊥

-- why a finish by this worker is refused: there is no such worker, or it has no run under way
abbrev pub IsFinishError : TableView → ℕ → EventError → Type 0
IsFinishError m worker x.NoWorker = workers_of m ≤ worker
IsFinishError m worker x.NotRunning = IsFree m worker
IsFinishError m worker _ = ⊥

-- a worker begins this run: that of the first task that is due
pub record Begins (old new : TableView) (worker : ℕ) (b : Begun) : Type 0 where
  pub free : IsFree old worker
  pub task : Seat
  pub first : IsFirstDue old b.task.slot task
  pub number : b.task.number ≡ task.number
  pub run : b.run ≡ task.run
  pub due : b.due ≡ task.due
  pub is : new ≡ started old worker b.task.slot task
  pub steps : EventStepsBefore old new (h.Start worker) (bare (a.Start worker b.task.number b.run b.due))

-- a worker begins no run, since none is due
pub record Idles (old new : TableView) (worker : ℕ) : Type 0 where
  pub free : IsFree old worker
  pub none : NoneDue old
  pub is : new ≡ old
  pub steps : EventStepsBefore old new (h.Start worker) (bare (a.Idle worker))

-- what a start did that was answered so
abbrev pub Starts : TableView → TableView → ℕ → Option Begun → Type 0
Starts old new worker None = Idles old new worker
Starts old new worker (Some b) = Begins old new worker b

-- the first task that is due has had so many runs that no number is left for one more
pub record IsFull (m : TableView) : Type 0 where
  pub slot : ℕ
  pub task : Seat
  pub first : IsFirstDue m slot task
  pub last : task.run ≡ 2 ^ 64 - 1

-- the run of the first task that is due may be under way, where a number is left for the one after it
abbrev pub MayRun : (ℕ → Bool) → TableView → Type 0
MayRun may_run m = (i : ℕ) (x : Seat) → IsFirstDue m i x → x.run + 1 < 2 ^ 64 → may_run x.run ≡ true

-- why a start had no effect: it is refused, and answered by that error; or it is not, and has no answer
abbrev pub FailsStart : TableView → ℕ → StartError → Type 0
FailsStart m worker (e.Refused error) = IsStartError m worker error × EventSteps m m (h.Start worker) (bare (a.Error error))
FailsStart m worker e.Full = IsFree m worker × IsFull m

-- what is left of a task whose run ended so: it waits for its next run, or nothing may come of it any more
abbrev pub IsLeft : Outcome → Seat → Type 0
IsLeft (o.Again next) x = waits (task_in x) ≡ true
IsLeft _ x = is_alive (task_in x) ≡ false

-- the run that a worker has under way, which ended so, comes to this
pub record IsEndOf (m : TableView) (worker : ℕ) (ending : Ending) (e : RunEnd) : Type 0 where
  pub within : worker < workers_of m
  pub works : slice_index_or m.work worker None ≡ Some e.task.slot
  pub task : Seat
  pub there : slot_of m.slots e.task.slot ≡ Some task
  pub number : e.task.number ≡ task.number
  pub run : e.run ≡ task.run
  pub due : e.due ≡ due_past task.timing task.due m.moment
  pub outcome : e.outcome ≡ outcome_in task.cancelled (stops_periodic m.shut m.stopped m.policies) task.timing (due_past task.timing task.due m.moment) ending
  pub runs : is_running_in task.phase ≡ true

-- a worker ends this run: the one that it has under way
pub record Ends (old new : TableView) (worker : ℕ) (ending : Ending) (e : Ended) : Type 0 where
  pub task : Seat
  pub works : slice_index_or old.work worker None ≡ Some e.task.slot
  pub there : slot_of old.slots e.task.slot ≡ Some task
  pub number : e.task.number ≡ task.number
  pub run : e.run ≡ task.run
  pub outcome : e.outcome ≡ outcome_in task.cancelled (stops_periodic old.shut old.stopped old.policies) task.timing (due_past task.timing task.due old.moment) ending
  pub is : new ≡ finished old worker e.task.slot task e.outcome (due_past task.timing task.due old.moment)
  pub runs : is_running_in task.phase ≡ true
  pub left : IsLeft e.outcome (ended e.outcome (due_past task.timing task.due old.moment) task)
  pub steps : EventSteps old new (h.Finish worker ending) (bare (a.Finish worker e.task.number e.run e.outcome))

-- why a finish had no effect, and the error that answers it
abbrev pub FailsFinish : TableView → ℕ → Ending → EventError → Type 0
FailsFinish m worker ending error = IsFinishError m worker error × EventSteps m m (h.Finish worker ending) (bare (a.Error error))

-- a clock has no effect since it would go back, or pass the limit
abbrev pub IsClockError : TableView → ℕ → EventError → Type 0
IsClockError m moment x.Backward = moment < m.moment
IsClockError m moment x.TooFar = (m.moment ≤ moment) × (longest < moment)
IsClockError m moment _ = ⊥

-- why a clock had no effect, and the error that answers it
abbrev pub FailsClock : TableView → ℕ → EventError → Type 0
FailsClock m moment error = IsClockError m moment error × EventSteps m m (h.Clock moment) (bare (a.Error error))

-- a kept task is dropped from the queue: of it nothing comes any more, and one task less is kept
pub record Drops (old new : TableView) (slot : ℕ) : Type 0 where
  pub task : Seat
  pub there : slot_of old.slots slot ≡ Some task
  pub kept : task.kept ≡ true
  pub is : new ≡ put old slot (unkept task)
  pub over : is_alive (task_in (unkept task)) ≡ false
  pub fewer : kept_in new.slots + 1 ≡ kept_in old.slots
