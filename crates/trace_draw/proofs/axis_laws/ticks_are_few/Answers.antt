use Rattle.trace_draw.proofs.WindowLaws
use Rattle.trace_draw.proofs.axis_laws.ticks_are_few.Goals as goal

pub returns : goal.returns
returns c = WindowLaws.ticks_are_few
