use Rattle.trace_draw.proofs.Counts
use Rattle.trace_draw.proofs.laws.bars_are_in_lanes.Goals as goal

pub returns : goal.returns
returns c = Counts.bars_are_in_lanes
