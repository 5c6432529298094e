use Rattle.executor_laws.proofs.Policies
use Rattle.executor_laws.proofs.sweeps.policies_are_the_last_set.Goals as goal

pub returns : goal.returns
returns c = Policies.policies_are_the_last_set
