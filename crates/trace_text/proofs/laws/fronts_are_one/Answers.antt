use Rattle.trace_text.proofs.Fronts.{one_of_fronts}
use Rattle.trace_text.proofs.laws.fronts_are_one.Goals as goal

pub returns : goal.returns
returns c = one_of_fronts
