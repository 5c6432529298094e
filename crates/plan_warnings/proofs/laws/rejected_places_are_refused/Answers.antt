use Rattle.plan_warnings.proofs.Placing.{rejected_places_are_refused}
use Rattle.plan_warnings.proofs.laws.rejected_places_are_refused.Goals as goal

pub returns : goal.returns
returns c = λ plan p iteration position workers past e written at told here.
    rejected_places_are_refused plan p iteration position workers past e (c.plans_are_ordered.ensures written.0 plan written.1) at told here
