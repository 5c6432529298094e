use Rattle.trace_draw.proofs.Within
use Rattle.trace_draw.proofs.laws.starts_have_bars.Goals as goal

pub returns : goal.returns
returns c = Within.starts_have_bars
