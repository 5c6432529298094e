-- Which slot the task of a number has, and whether it is empty. No contract of a public call cites it.
-- All of it is this project's rule.
use Rattle.std.specs.Prelude.{◌≡◌, ℕ, nat_lt, if◌then◌else◌, List, Option, Some, None}
use Rattle.executor_model.specs.declared.types.CancelEffect.{CancelEffect}
use Rattle.executor_model.specs.declared.types.CancelEffect.TheVariants as f
use Rattle.task_table.specs.declared.seat.Seat.{Seat}
use Rattle.task_table.specs.declared.seat.TaskRef.{TaskRef}
use Rattle.task_table.specs.Tables.{TableView}
use Rattle.task_table.specs.Seats.{slot_of, IsNew}

-- this slot holds the task of a number, or no slot does
abbrev pub IsSlotOf : List (Option Seat) → ℕ → Option ℕ → Type 0
IsSlotOf slots number None = IsNew slots number
IsSlotOf slots number (Some slot) = (x : Seat) × (slot_of slots slot ≡ Some x) × (x.number ≡ number)

-- the slot of a task is empty
abbrev pub IsEmptyAt : TableView → TaskRef → Type 0
IsEmptyAt m task = slot_of m.slots task.slot ≡ None

-- what a cancel does to a task that has no slot, where so many were accepted: nothing, as it is over, or was never accepted
abbrev pub effect_without : ℕ → ℕ → CancelEffect
effect_without accepted k = if nat_lt k accepted then f.No else f.Absent
