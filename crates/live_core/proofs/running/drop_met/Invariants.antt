-- Some of the kept tasks that the start meets are gone already, and the slots are noted as they are.
use Rattle.std.proofs.Common.{ℕ}
use Rattle.task_table.specs.Firsts.{kept_in}
use Rattle.live_core.specs.Lives.{AreAlive}
use Rattle.live_core.specs.own.Formed.{AreNoted}
use Rattle.live_core.specs.own.Shed.{Sheds}
use Rattle.live_core.specs.own.Slots.{LeavesSlots}
use Rattle.live_core.proofs.running.drop_met.Given as goal

abbrev pub invariant-loop-slot : goal.invariant-loop-slot
invariant-loop-slot g l = record {
  sheds : Sheds l.fn.table l.table;
  leaves : LeavesSlots l.fn.table.slots l.table.slots;
  noted : (count ended_room : ℕ) → AreNoted l.fn.table.slots count l.fn.notes.free l.fn.notes.entries l.fn.notes.slot_room ended_room → AreNoted l.table.slots count l.notes.free l.notes.entries l.notes.slot_room ended_room;
  alive : AreAlive l.fn.table.slots → AreAlive l.table.slots;
}

abbrev pub decreases-loop-slot : goal.decreases-loop-slot
decreases-loop-slot g l = kept_in l.table.slots
