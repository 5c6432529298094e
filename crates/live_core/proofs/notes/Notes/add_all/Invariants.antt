-- The tasks before this one are noted.
use Rattle.std.proofs.Common.{◌≡◌, take}
use Rattle.live_core.specs.own.Restoring.{refs_of}
use Rattle.live_core.proofs.notes.Notes.add_all.Given as goal

abbrev pub invariant-loop-image : goal.invariant-loop-image
invariant-loop-image g l = l.self ≡ record l.fn.self { entries = refs_of (take l.image-index l.tasks) }
