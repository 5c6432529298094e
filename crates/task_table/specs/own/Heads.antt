-- What the least entries of the two queues say. No contract of a public call cites it.
-- All of it is this project's rule.
use Rattle.std.specs.Prelude.{◌≡◌, ℕ, ◌≤◌, Bool, true, false, Option, Some}
use Rattle.task_table.specs.declared.seat.Seat.{Seat}
use Rattle.task_table.specs.Seats.{slot_of}
use Rattle.task_table.specs.Tables.{TableView}
use Rattle.task_table.specs.Firsts.{IsFirstDue, FirstIs, is_met, MeetsNone}

-- the first task that is due, of this entry
pub record HeadsQueue (m : TableView) (slot due number : ℕ) : Type 0 where
  pub task : Seat
  pub first : IsFirstDue m slot task
  pub dues : task.due ≡ due
  pub named : task.number ≡ number

-- the first kept task, of this entry: where a start does not meet it, it meets none, and none is due earlier
pub record HeadsKept (m : TableView) (slot due number : ℕ) : Type 0 where
  pub task : Seat
  pub there : slot_of m.slots slot ≡ Some task
  pub kept : task.kept ≡ true
  pub dues : task.due ≡ due
  pub named : task.number ≡ number
  pub unmet : (first : Option Seat) → is_met m.moment first task ≡ false → MeetsNone m first
  pub least : (i : ℕ) (y : Seat) → slot_of m.slots i ≡ Some y → y.kept ≡ true → due ≤ y.due

-- whether a start meets a kept task of this due moment and number
pub record IsMetBy (m : TableView) (due number : ℕ) (met : Bool) : Type 0 where
  pub first : Option Seat
  pub is : FirstIs m first
  pub told : (x : Seat) → x.due ≡ due → x.number ≡ number → met ≡ is_met m.moment first x
