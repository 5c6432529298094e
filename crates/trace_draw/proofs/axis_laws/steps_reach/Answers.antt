use Rattle.trace_draw.proofs.WindowLaws
use Rattle.trace_draw.proofs.axis_laws.steps_reach.Goals as goal

pub returns : goal.returns
returns c = WindowLaws.steps_reach
