use Rattle.plan_warnings.proofs.Placing
use Rattle.plan_warnings.proofs.laws.illegal_places_are_refused.Goals as goal

pub returns : goal.returns
returns c = Placing.illegal_places_are_refused
