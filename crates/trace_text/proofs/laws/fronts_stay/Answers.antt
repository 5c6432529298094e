use Rattle.trace_text.proofs.Fronts.{front_stays}
use Rattle.trace_text.proofs.laws.fronts_stay.Goals as goal

pub returns : goal.returns
returns c = front_stays
