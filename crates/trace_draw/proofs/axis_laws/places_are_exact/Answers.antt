use Rattle.trace_draw.proofs.WindowLaws
use Rattle.trace_draw.proofs.axis_laws.places_are_exact.Goals as goal

pub returns : goal.returns
returns c = WindowLaws.places_are_exact
