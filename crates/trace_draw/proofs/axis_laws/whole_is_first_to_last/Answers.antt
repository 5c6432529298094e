use Rattle.trace_draw.proofs.WindowLaws
use Rattle.trace_draw.proofs.axis_laws.whole_is_first_to_last.Goals as goal

pub returns : goal.returns
returns c = WindowLaws.whole_is_first_to_last
