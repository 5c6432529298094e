use Rattle.trace_draw.proofs.WindowLaws
use Rattle.trace_draw.proofs.axis_laws.multiples_have_ticks.Goals as goal

pub returns : goal.returns
returns c = WindowLaws.multiples_have_ticks
