-- The tasks of the entries before this place are written.
use Rattle.live_core.specs.own.Restoring.{AreWritten}
use Rattle.live_core.specs.own.Slots.{entries_of}
use Rattle.live_core.proofs.index.images_of.Given as goal

abbrev pub invariant-loop-place : goal.invariant-loop-place
invariant-loop-place g l = AreWritten l.table (entries_of l.numbers l.slots) l.place l.images.items
