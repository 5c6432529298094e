use Rattle.plan_warnings.proofs.Refusing
use Rattle.plan_warnings.proofs.laws.illegal_calls_are_refused.Goals as goal

pub returns : goal.returns
returns c = Refusing.illegal_calls_are_refused
