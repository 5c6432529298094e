use Rattle.trace_svg.proofs.PileLaws
use Rattle.trace_svg.proofs.laws.bars_are_counted.Goals as goal

pub returns : goal.returns
returns c = PileLaws.bars_are_counted
