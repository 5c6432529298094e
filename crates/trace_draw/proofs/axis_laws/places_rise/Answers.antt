use Rattle.trace_draw.proofs.WindowLaws
use Rattle.trace_draw.proofs.axis_laws.places_rise.Goals as goal

pub returns : goal.returns
returns c = WindowLaws.places_rise
