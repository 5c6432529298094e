use Rattle.executor_laws.proofs.Policies
use Rattle.executor_laws.proofs.sweeps.shut_is_a_shutdown.Goals as goal

pub returns : goal.returns
returns c = Policies.shut_is_a_shutdown
