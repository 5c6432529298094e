use Rattle.plan_warnings.proofs.Placing
use Rattle.plan_warnings.proofs.laws.places_rejected_again_are_refused.Goals as goal

pub returns : goal.returns
returns c = Placing.places_rejected_again_are_refused
