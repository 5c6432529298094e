use Rattle.trace_svg.proofs.PileLaws
use Rattle.trace_svg.proofs.laws.piles_hold_bars.Goals as goal

pub returns : goal.returns
returns c = PileLaws.piles_hold_bars
