-- The numbers that stand for statuses, outcomes, effects, phases and policies at C. (This project's rule.)
use Rattle.std.specs.Prelude.{ℕ, Bool, true, false}
use Rattle.sched_time.specs.declared.policies.Which.{Which}
use Rattle.sched_time.specs.declared.policies.Which.TheVariants as w
use Rattle.executor_model.specs.declared.types.CancelEffect.{CancelEffect}
use Rattle.executor_model.specs.declared.types.CancelEffect.TheVariants as e
use Rattle.executor_model.specs.declared.types.Outcome.{Outcome}
use Rattle.executor_model.specs.declared.types.Outcome.TheVariants as o
use Rattle.timers_c.specs.declared.state.Phase.{Phase}
use Rattle.timers_c.specs.declared.state.Phase.TheVariants as p
use Rattle.timers_c.specs.declared.status.Status.{Status}
use Rattle.timers_c.specs.declared.status.Status.TheVariants as s

-- how a call ended; 9 is the header's own, for a pointer that is NULL
abbrev pub number_of_status : Status → ℕ
number_of_status s.Done = 0
number_of_status s.NoMemory = 1
number_of_status s.NoTimers = 2
number_of_status s.HasTimers = 3
number_of_status s.Workers = 4
number_of_status s.Shut = 5
number_of_status s.Illegal = 6
number_of_status s.TooLong = 7
number_of_status s.TooFar = 8
number_of_status s.NoWorker = 10
number_of_status s.Busy = 11
number_of_status s.NotRunning = 12
number_of_status s.Idle = 13
number_of_status s.Full = 14
number_of_status s.NoTask = 15
number_of_status s.Number = 16

-- what becomes of a task whose run has ended
abbrev pub number_of_outcome : Outcome → ℕ
number_of_outcome (o.Done value) = 0
number_of_outcome (o.Failed code) = 1
number_of_outcome (o.Again next) = 2
number_of_outcome o.Dropped = 3
number_of_outcome o.Ended = 4

-- what a cancel did
abbrev pub number_of_effect : CancelEffect → ℕ
number_of_effect e.Absent = 0
number_of_effect e.No = 1
number_of_effect e.Yes = 2

-- how far a task is
abbrev pub number_of_phase : Phase → ℕ
number_of_phase p.Gone = 0
number_of_phase p.Waiting = 1
number_of_phase p.Running = 2
number_of_phase p.Kept = 3

-- which policy
abbrev pub number_of_policy : Which → ℕ
number_of_policy w.Continue = 0
number_of_policy w.Execute = 1
number_of_policy w.Remove = 2

-- a yes or a no
abbrev pub number_of_bool : Bool → ℕ
number_of_bool false = 0
number_of_bool true = 1
