-- The slots before this one are empty, each once, and they are those that are marked.
use Rattle.std.proofs.Common.{◌≡◌, length, take}
use Rattle.live_core.specs.Empties.{held_numbers}
use Rattle.live_core.specs.own.Restoring.{AreOnceEmpty, AreMarked}
use Rattle.live_core.proofs.restoring.mark_empty.Given as goal

abbrev pub invariant-loop-slot : goal.invariant-loop-slot
invariant-loop-slot l = record {
  size : length l.marks ≡ length l.seats;
  marked : AreMarked l.marks (take l.slot-index l.empty);
  each : AreOnceEmpty (held_numbers l.seats) (take l.slot-index l.empty);
}
