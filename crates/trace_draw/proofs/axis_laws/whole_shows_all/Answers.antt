use Rattle.trace_draw.proofs.WindowLaws
use Rattle.trace_draw.proofs.axis_laws.whole_shows_all.Goals as goal

pub returns : goal.returns
returns c = WindowLaws.whole_shows_all
