use Rattle.trace_draw.proofs.Lanes
use Rattle.trace_draw.proofs.laws.moments_do_not_fall.Goals as goal

pub returns : goal.returns
returns c = Lanes.moments_do_not_fall
