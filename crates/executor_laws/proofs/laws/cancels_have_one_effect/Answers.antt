use Rattle.executor_laws.proofs.Repeats
use Rattle.executor_laws.proofs.laws.cancels_have_one_effect.Goals as goal

pub returns : goal.returns
returns c = Repeats.cancels_have_one_effect
