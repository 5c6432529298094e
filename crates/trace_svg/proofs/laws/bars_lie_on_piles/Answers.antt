use Rattle.trace_svg.proofs.PileLaws
use Rattle.trace_svg.proofs.laws.bars_lie_on_piles.Goals as goal

pub returns : goal.returns
returns c = PileLaws.bars_lie_on_piles
