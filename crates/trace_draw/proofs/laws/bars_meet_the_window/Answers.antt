use Rattle.trace_draw.proofs.Within
use Rattle.trace_draw.proofs.laws.bars_meet_the_window.Goals as goal

pub returns : goal.returns
returns c = Within.bars_meet_the_window
