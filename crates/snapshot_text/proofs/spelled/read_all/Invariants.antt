use Rattle.std.proofs.Common.{length}
use Rattle.snapshot_text.specs.own.Lists.{AreFirst}
use Rattle.snapshot_text.proofs.spelled.read_all.Given as goal

abbrev pub invariant-loop-value : goal.invariant-loop-value
invariant-loop-value g l = AreFirst g.V.Spelled.spell g.V.Spelled.fits l.text l.values.items l.rest

abbrev pub decreases-loop-value : goal.decreases-loop-value
decreases-loop-value g l = length l.rest
