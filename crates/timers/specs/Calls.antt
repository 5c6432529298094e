-- What the calls of timers do.
-- All of it is this project's rule.
use Rattle.std.specs.Prelude.{◌≡◌, ℕ, ◌+◌, ◌*◌, ◌-◌, ◌^◌, ◌<◌, ◌≤◌, ◌⊎◌, max, not, List, [], length, Option, Some, None, slice_index_or}
use Rattle.sched_time.specs.Times.{longest}
use Rattle.sched_time.specs.declared.timing.Timing.{Timing}
use Rattle.sched_time.specs.declared.timing.Ending.{Ending}
use Rattle.queue_code.specs.declared.call.CodeCall.TheVariants as c
use Rattle.executor_model.specs.declared.types.Happening.TheVariants as h
use Rattle.executor_model.specs.declared.types.Answer.TheVariants as a
use Rattle.executor_model.specs.Answers.{Reply, bare}
use Rattle.task_table.specs.declared.seat.Seat.{Seat}
use Rattle.task_table.specs.Tables.{workers_of}
use Rattle.task_table.specs.Runs.{IsFree, IsFull}
use Rattle.live_core.specs.declared.answers.Submitted.{Submitted}
use Rattle.live_core.specs.declared.answers.Submitted.TheVariants as su
use Rattle.live_core.specs.Lives.{LiveView, Calls, Happens, Stays, moment_of_call}
use Rattle.live_core.specs.Said.{AreTaken, IsSeated, IsShort, has_task, number_of, submit_reply}
use Rattle.live_core.specs.Events.{IsLeftThere, IsRunBy, WouldPassLimit, run_limit}
use Rattle.timers.specs.declared.answers.Run.{Run}
use Rattle.timers.specs.declared.answers.Finished.{Finished}
use Rattle.timers.specs.declared.error.PollError.{PollError}
use Rattle.timers.specs.declared.error.PollError.TheVariants as pe
use Rattle.timers.specs.declared.error.FinishError.{FinishError}
use Rattle.timers.specs.declared.error.FinishError.TheVariants as fe

-- the second number is at least half as many more and three, and at most half as many more and four
abbrev pub IsHalfMore : ℕ → ℕ → Type 0
IsHalfMore before after = (3 * before + 6 ≤ 2 * after) × (2 * after ≤ 3 * before + 8)

-- there are as many slots as before; or each held a task, and now there are half as many more
abbrev pub GrowsByHalf : List (Option Seat) → List (Option Seat) → Type 0
GrowsByHalf old new = (length new ≡ length old) ⊎ (AreTaken old × IsHalfMore (length old) (length new))

-- what a submission leaves of the slots: a task that is rejected wants none
abbrev pub SlotsFor : List (Option Seat) → List (Option Seat) → Submitted → Type 0
SlotsFor old new (su.Accepted task due) = GrowsByHalf old new
SlotsFor old new (su.Rejected number) = new ≡ old

-- a submission has this number, which comes next, and is a call that is made; it is accepted exactly where the executor is not shut,
-- and then its task is in its slot
pub record Submits (old new : LiveView) (at : ℕ) (timing : Timing) (delay : ℕ) (s : Submitted) : Type 0 where
  pub short : IsShort timing delay
  pub near : moment_of_call old at ≤ longest
  pub number : number_of s ≡ old.count
  pub numbers : old.count < 2 ^ 64 - 1
  pub accepts : has_task s ≡ not old.table.shut
  pub makes : Calls old new (moment_of_call old at, c.Submit old.count timing delay) (submit_reply timing s)
  pub seated : IsSeated new s
  pub slots : SlotsFor old.table.slots new.table.slots s

-- what the clock shows where this moment is handed in: now, where that would go back
abbrev pub shown : LiveView → ℕ → ℕ
shown m now = max now m.table.moment

-- the clock shows that; each task stays in its slot, and each worker has the run that it had
pub record Shows (old new : LiveView) (now : ℕ) : Type 0 where
  pub near : shown old now ≤ longest
  pub moment : new.table.moment ≡ shown old now
  pub happens : Happens old new (h.Clock (shown old now)) (bare a.Clock)
  pub earliest : new.earliest ≡ shown old now + 1
  pub count : new.count ≡ old.count
  pub slots : new.table.slots ≡ old.table.slots
  pub work : new.table.work ≡ old.table.work
  pub ended : new.ended ≡ []

-- a start by a worker begins this run, or none
abbrev pub run_reply : ℕ → Option Run → Reply
run_reply worker None = bare (a.Idle worker)
run_reply worker (Some r) = bare (a.Start worker r.task.number r.run r.due)

-- a worker runs the task of this run, which has a number
abbrev pub IsRunNow : LiveView → ℕ → Option Run → Type 0
IsRunNow m worker None = Unit {0}
IsRunNow m worker (Some r) = IsRunBy m.table worker r.task × (r.run < run_limit)

-- a worker that has no run under way polls: the clock shows the moment, and then the worker starts
pub record Polls (old new : LiveView) (now worker : ℕ) (run : Option Run) : Type 0 where
  pub free : IsFree old.table worker
  pub between : LiveView
  pub clock : Shows old between now
  pub start : Happens between new (h.Start worker) (run_reply worker run)
  pub stays : Stays between new between.count
  pub runs : IsRunNow new worker run
  pub ended : new.ended ≡ []

-- there is this worker, and it has a run under way
abbrev pub IsBusy : LiveView → ℕ → Type 0
IsBusy m worker = (slot : ℕ) × (slice_index_or m.table.work worker None ≡ Some slot)

-- why a poll begins no run, where some run may be due: there is no such worker, or it has a run under way, or the moment is too late,
-- and nothing has happened; or the clock shows the moment, and no number is left for the run of the first task that is due
abbrev pub IsPollError : LiveView → LiveView → ℕ → ℕ → PollError → Type 0
IsPollError old new now worker pe.NoWorker = (workers_of old.table ≤ worker) × (new ≡ old)
IsPollError old new now worker pe.Busy = IsBusy old worker × (new ≡ old)
IsPollError old new now worker pe.TooFar = IsFree old.table worker × (longest < shown old now) × (new ≡ old)
IsPollError old new now worker pe.Full = IsFree old.table worker × Shows old new now × IsFull new.table × WouldPassLimit new worker

-- a worker has ended this run: the clock shows the moment, and then the worker finishes
pub record Finishes (old new : LiveView) (now worker : ℕ) (ending : Ending) (f : Finished) : Type 0 where
  pub ran : IsRunBy old.table worker f.task
  pub between : LiveView
  pub clock : Shows old between now
  pub finish : Happens between new (h.Finish worker ending) (bare (a.Finish worker f.task.number f.run f.outcome))
  pub stays : Stays between new between.count
  pub left : IsLeftThere new.table f.outcome f.task
  pub ended : new.ended ≡ []

-- why no run ends: there is no such worker, or it has no run under way, or the moment is too late
abbrev pub IsFinishError : LiveView → ℕ → ℕ → FinishError → Type 0
IsFinishError m now worker fe.NoWorker = workers_of m.table ≤ worker
IsFinishError m now worker fe.NotRunning = IsFree m.table worker
IsFinishError m now worker fe.TooFar = IsBusy m worker × (longest < shown m now)
