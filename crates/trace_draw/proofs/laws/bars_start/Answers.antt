use Rattle.trace_draw.proofs.Lanes
use Rattle.trace_draw.proofs.laws.bars_start.Goals as goal

pub returns : goal.returns
returns c = Lanes.bars_start
