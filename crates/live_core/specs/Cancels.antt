-- What cancels answer, from outside and by a call.
-- All of it is this project's rule.
use Rattle.std.specs.Prelude.{◌≡◌, ℕ, ◌+◌, ◌<◌, ◌≤◌, true, [], Some}
use Rattle.sched_time.specs.Times.{longest}
use Rattle.queue_code.specs.declared.call.CodeCall.TheVariants as c
use Rattle.executor_model.specs.declared.types.Happening.TheVariants as h
use Rattle.executor_model.specs.declared.types.Answer.TheVariants as a
use Rattle.executor_model.specs.declared.types.CancelEffect.{CancelEffect}
use Rattle.executor_model.specs.declared.types.EventError.{EventError}
use Rattle.executor_model.specs.declared.types.EventError.TheVariants as x
use Rattle.executor_model.specs.Answers.{bare}
use Rattle.task_table.specs.declared.seat.Seat.{Seat}
use Rattle.task_table.specs.Seats.{task_in, slot_of, is_alive}
use Rattle.task_table.specs.Tables.{TableView}
use Rattle.live_core.specs.declared.error.CallError.{CallError}
use Rattle.live_core.specs.declared.error.CallError.TheVariants as ce
use Rattle.live_core.specs.Lives.{LiveView, Calls, Happens, never, quiet, moment_of_call}

-- the task of this number has a slot only while something may come of it
abbrev pub IsHeldAlive : TableView → ℕ → Type 0
IsHeldAlive m k = (i : ℕ) (x : Seat) → slot_of m.slots i ≡ Some x → x.number ≡ k → is_alive (task_in x) ≡ true

-- a cancel from outside of a number that was given out has this effect, as Future.cancel has none on a task that is over or was
-- cancelled; the slot of its task is empty where it is over
pub record CancelsOutside (old new : LiveView) (k : ℕ) (effect : CancelEffect) : Type 0 where
  pub given : k < old.count
  pub happens : Happens old new (h.Cancel k) (bare (a.Outside k effect))
  pub held : IsHeldAlive new.table k
  pub ended : new.ended ≡ []

-- one of a number that was not given out is refused, and changes no task: it counts as one of a number that no task ever has
pub record CancelsNone (old new : LiveView) (k : ℕ) (error : EventError) : Type 0 where
  pub is : error ≡ x.NoTask
  pub free : old.count ≤ k
  pub unchanged : new ≡ quiet old old.table
  pub happens : Happens old new (h.Cancel (never + k)) (bare (a.Error x.NoTask))

-- a call cancels the task of a number that was given out, with this effect; the same of its slot
pub record CancelsByCall (old new : LiveView) (at k : ℕ) (effect : CancelEffect) : Type 0 where
  pub given : k < old.count
  pub near : moment_of_call old at ≤ longest
  pub makes : Calls old new (moment_of_call old at, c.Cancel k) (bare (a.Cancel k effect))
  pub held : IsHeldAlive new.table k
  pub ended : new.ended ≡ []

-- why a cancel is no call: its number was not given out, or else its moment would be too late
abbrev pub IsCancelError : LiveView → ℕ → ℕ → CallError → Type 0
IsCancelError m at k ce.NoTask = m.count ≤ k
IsCancelError m at k ce.TooFar = (k < m.count) × (longest < moment_of_call m at)
IsCancelError m at k _ = ⊥
