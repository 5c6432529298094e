use Rattle.plan_warnings.proofs.Refusing
use Rattle.plan_warnings.proofs.laws.cancels_of_refused_tasks_have_no_effect.Goals as goal

pub returns : goal.returns
returns c = Refusing.cancels_of_refused_tasks_have_no_effect
