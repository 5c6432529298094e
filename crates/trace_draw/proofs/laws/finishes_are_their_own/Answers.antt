use Rattle.trace_draw.proofs.Lanes
use Rattle.trace_draw.proofs.laws.finishes_are_their_own.Goals as goal

pub returns : goal.returns
returns c = Lanes.finishes_are_their_own
