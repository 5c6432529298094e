use Rattle.executor_laws.proofs.Policies
use Rattle.executor_laws.proofs.sweeps.swept_are_those.Goals as goal

pub returns : goal.returns
returns c = Policies.swept_are_those
