use Rattle.trace_draw.proofs.WindowLaws
use Rattle.trace_draw.proofs.axis_laws.ticks_stand.Goals as goal

pub returns : goal.returns
returns c = WindowLaws.ticks_stand
