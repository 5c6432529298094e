use Rattle.trace_svg.proofs.PileLaws
use Rattle.trace_svg.proofs.laws.piles_do_not_overlap.Goals as goal

pub returns : goal.returns
returns c = PileLaws.piles_do_not_overlap
