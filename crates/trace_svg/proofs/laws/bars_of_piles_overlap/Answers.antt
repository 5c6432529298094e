use Rattle.trace_svg.proofs.PileLaws
use Rattle.trace_svg.proofs.laws.bars_of_piles_overlap.Goals as goal

pub returns : goal.returns
returns c = PileLaws.bars_of_piles_overlap
