use Rattle.executor_laws.proofs.Policies
use Rattle.executor_laws.proofs.sweeps.sweeps_end_those.Goals as goal

pub returns : goal.returns
returns c = Policies.sweeps_end_those
