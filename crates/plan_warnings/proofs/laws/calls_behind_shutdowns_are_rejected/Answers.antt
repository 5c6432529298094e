use Rattle.plan_warnings.proofs.Refusing
use Rattle.plan_warnings.proofs.laws.calls_behind_shutdowns_are_rejected.Goals as goal

pub returns : goal.returns
returns c = Refusing.calls_behind_shutdowns_are_rejected
