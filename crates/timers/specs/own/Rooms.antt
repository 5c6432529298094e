-- Room for one more task. No contract of a public call cites it.
-- All of it is this project's rule.
use Rattle.std.specs.Prelude.{◌≡◌, ℕ, ◌+◌, ◌*◌, ◌-◌, ◌^◌, ◌<◌, ◌≤◌, ◌⊎◌, List, ◌++◌, length, replicate, false, slice_set}
use Rattle.sched_time.specs.Times.{longest}
use Rattle.sched_time.specs.declared.timing.Timing.{Timing}
use Rattle.sched_time.specs.declared.timing.Timing.TheVariants as t
use Rattle.queue_code.specs.Calls.{Planned}
use Rattle.executor_model.specs.Histories.{HistoryEntry}
use Rattle.task_table.specs.Changes.{grown}
use Rattle.live_core.specs.declared.answers.Submitted.{Submitted}
use Rattle.live_core.specs.declared.answers.Submitted.TheVariants as su
use Rattle.live_core.specs.Lives.{LiveView, Stands, moment_of_call}
use Rattle.live_core.specs.Said.{AreTaken}
use Rattle.timers.specs.Timers.{TimersView}
use Rattle.timers.specs.Calls.{IsHalfMore}

-- there are so many slots, and data for each, where the new ones are empty
pub record Grows (old new : TimersView) (slots : ℕ) : Type 0 where
  pub live : new.live ≡ record old.live { table = grown old.live.table slots }
  pub user_data : (more : ℕ) × (new.user_data ≡ old.user_data ++ replicate more 0)
  pub size : length new.user_data ≡ length new.live.table.slots
  pub stands : (calls : List Planned) (past : List HistoryEntry) → Stands old.live calls past → Stands new.live calls past

-- there are half as many slots more
pub record GrowsByHalf (old new : TimersView) : Type 0 where
  pub slots : ℕ
  pub half : IsHalfMore (length old.live.table.slots) slots
  pub grows : Grows old new slots

-- nothing has changed; or the executor is not shut, and each slot held a task, and now there are half as many more
abbrev pub MakesRoom : TimersView → TimersView → Type 0
MakesRoom old new = (new ≡ old) ⊎ ((old.live.table.shut ≡ false) × AreTaken old.live.table.slots × GrowsByHalf old new)

-- an executor with the data in its slots
abbrev pub seen : LiveView → List ℕ → TimersView
seen live kept = record { live = live; user_data = kept }

-- the data of a submission stand in the slot of its task, where it has one
abbrev pub stored : Submitted → ℕ → List ℕ → List ℕ
stored (su.Accepted task due) value kept = slice_set kept task.slot value
stored (su.Rejected number) value kept = kept

-- there are data for the slot of a submission's task, where it has one
abbrev pub HasPlace : Submitted → List ℕ → Type 0
HasPlace (su.Accepted task due) kept = task.slot < length kept
HasPlace (su.Rejected number) kept = Unit {0}

-- a period, or a fixed delay, is not 0
abbrev pub IsLegal : Timing → Type 0
IsLegal t.Once = Unit {0}
IsLegal (t.Rate period) = 0 < period
IsLegal (t.Fixed delay) = 0 < delay

-- no error comes of a submission with such a delay, where its other span is within the limit: not want of memory either
pub record IsReady (m : LiveView) (at delay : ℕ) : Type 0 where
  pub short : delay ≤ longest
  pub near : moment_of_call m at ≤ longest
  pub numbers : m.count < 2 ^ 64 - 1
  pub room : m.table.shut ≡ false → AreTaken m.table.slots → ⊥

-- nothing has changed, and not each slot holds a task; or room was made, and no error comes of a submission with such a delay then
abbrev pub HasRoomFor : TimersView → TimersView → ℕ → ℕ → Type 0
HasRoomFor old new at delay = ((new ≡ old) × (AreTaken old.live.table.slots → ⊥)) ⊎ (MakesRoom old new × IsReady new.live at delay)
