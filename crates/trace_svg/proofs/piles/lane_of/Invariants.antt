use Rattle.std.proofs.Common.{◌≡◌, take}
use Rattle.trace_svg.specs.Piles.{bars_in}
use Rattle.trace_svg.proofs.piles.lane_of.Given as goal

abbrev pub invariant-loop-bar : goal.invariant-loop-bar
invariant-loop-bar g l = l.lane.items ≡ bars_in l.worker (take l.bar-index l.bars)
