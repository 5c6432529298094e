use Rattle.trace_draw.proofs.WindowLaws
use Rattle.trace_draw.proofs.axis_laws.places_reach_the_ends.Goals as goal

pub returns : goal.returns
returns c = WindowLaws.places_reach_the_ends
