-- The slots before this one are noted.
use Rattle.std.proofs.Common.{◌≡◌, take}
use Rattle.live_core.proofs.notes.Notes.add_all_empty.Given as goal

abbrev pub invariant-loop-slot : goal.invariant-loop-slot
invariant-loop-slot g l = l.self ≡ record l.fn.self { free = take l.slot-index l.slots }
