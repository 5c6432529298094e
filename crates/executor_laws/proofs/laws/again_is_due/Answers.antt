use Rattle.executor_laws.proofs.Repeats
use Rattle.executor_laws.proofs.laws.again_is_due.Goals as goal

pub returns : goal.returns
returns c = Repeats.again_is_due
