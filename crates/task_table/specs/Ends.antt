-- Which tasks of a table a sweep ends, and what a cancel does to one.
-- All of it is this project's rule.
use Rattle.std.specs.Prelude.{◌≡◌, ℕ, ◌<◌, ◌&&◌, ◌||◌, not, Bool, true, false, if◌then◌else◌, List, [], ◌∷◌, Some}
use Rattle.std.specs.Option.{option_map_or}
use Rattle.sched_time.specs.declared.policies.Policies.{Policies}
use Rattle.executor_model.specs.declared.types.CancelEffect.{CancelEffect}
use Rattle.executor_model.specs.declared.types.CancelEffect.TheVariants as f
use Rattle.executor_model.specs.declared.task.Stage.{Stage}
use Rattle.executor_model.specs.declared.task.Stage.TheVariants as ph
use Rattle.queue_code.specs.declared.call.CodeCall.{CodeCall}
use Rattle.queue_code.specs.declared.call.CodeCall.TheVariants as c
use Rattle.executor_model.specs.Answers.{is_ended_by, setting_sweeps}
use Rattle.executor_model.specs.Histories.{is_end}
use Rattle.task_table.specs.declared.seat.Seat.{Seat}
use Rattle.task_table.specs.Seats.{task_in, slot_of, waits, is_waiting_in, is_running_in}
use Rattle.task_table.specs.Tables.{TableView}

-- a sweep under these policies, at this moment, ends a task
abbrev pub is_swept : Bool → Policies → ℕ → Seat → Bool
is_swept stopped policies moment x = waits (task_in x) && is_ended_by stopped policies moment x.timing x.due

-- a sweep of the table, under the policies and at the moment that it has, ends a task
abbrev pub ends_task : TableView → Seat → Bool
ends_task m x = is_swept m.stopped m.policies m.moment x

-- it ends the task in a slot
abbrev pub ends_at_slot : TableView → ℕ → Bool
ends_at_slot m i = option_map_or (is_swept m.stopped m.policies m.moment) (slot_of m.slots i) false

-- a call sweeps, where the executor was shut before it or not: it is the first shutdown, or one at once, or sets the continue or
-- the execute policy to false while the executor is shut
abbrev pub sweeps_at : Bool → CodeCall → Bool
sweeps_at shut (c.SetPolicy which value) = setting_sweeps shut which value
sweeps_at shut c.Shutdown = not shut
sweeps_at shut c.ShutdownNow = true
sweeps_at shut _ = false

-- each number is below those behind it
abbrev pub IsAscending : List ℕ → Type 0
IsAscending [] = Unit {0}
IsAscending (k ∷ ks) = ((j : ℕ) → is_end j ks ≡ true → k < j) × IsAscending ks

-- these are the numbers of the tasks that a sweep of the table ends, under the policies and at the moment that it has, ascending
pub record AreEnded (m : TableView) (ends : List ℕ) : Type 0 where
  pub ascending : IsAscending ends
  pub each : (k : ℕ) → is_end k ends ≡ true → (i : ℕ) × (x : Seat) × (slot_of m.slots i ≡ Some x) × (x.number ≡ k) × (is_swept m.stopped m.policies m.moment x ≡ true)
  pub all : (i : ℕ) (x : Seat) → slot_of m.slots i ≡ Some x → is_swept m.stopped m.policies m.moment x ≡ true → is_end x.number ends ≡ true

-- what a cancel does to a task that was accepted
abbrev pub effect_of : Seat → CancelEffect
effect_of x = if (is_waiting_in x.phase || is_running_in x.phase) && not x.cancelled then f.Yes else f.No

-- what a cancel does to a task that has no slot, by its phase
abbrev pub effect_gone : Stage → CancelEffect
effect_gone ph.Vacant = f.Absent
effect_gone _ = f.No
