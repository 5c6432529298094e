-- What a purge leaves.
-- (ThreadPoolExecutor.purge, Java SE 17 documentation: "Tries to remove from the work queue all Future tasks that have been cancelled.
-- This method can be useful as a storage reclamation operation, that has no other impact on functionality.")
use Rattle.std.specs.Prelude.{◌≡◌, ℕ, true, false, Some, None}
use Rattle.executor_model.specs.declared.types.Happening.TheVariants as h
use Rattle.executor_model.specs.declared.types.Answer.TheVariants as a
use Rattle.executor_model.specs.Answers.{bare}
use Rattle.task_table.specs.declared.seat.Seat.{Seat}
use Rattle.task_table.specs.Seats.{slot_of}
use Rattle.live_core.specs.Lives.{LiveView, Happens, quiet}

-- a purge happens: the slot of each task that is kept is empty from then on, each other task stands in its slot as it stood, an
-- empty slot stays so, and nothing else changes
pub record Purges (old new : LiveView) : Type 0 where
  pub happens : Happens old new h.Purge (bare a.Purge)
  pub rest : new ≡ quiet old (record old.table { slots = new.table.slots })
  pub gone : (i : ℕ) (x : Seat) → slot_of old.table.slots i ≡ Some x → x.kept ≡ true → slot_of new.table.slots i ≡ None
  pub others : (i : ℕ) (x : Seat) → slot_of old.table.slots i ≡ Some x → x.kept ≡ false → slot_of new.table.slots i ≡ Some x
  pub empty : (i : ℕ) → slot_of old.table.slots i ≡ None → slot_of new.table.slots i ≡ None
