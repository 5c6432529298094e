use Rattle.plan_warnings.proofs.Cancelling.{nothing_is_cancelled}
use Rattle.plan_warnings.proofs.laws.places_with_nothing_to_cancel_have_no_effect.Goals as goal

pub returns : goal.returns
returns c = λ plan p iteration position workers past e written at told here.
    nothing_is_cancelled plan p iteration position workers past e (c.plans_are_ordered.ensures written.0 plan written.1) at told here
