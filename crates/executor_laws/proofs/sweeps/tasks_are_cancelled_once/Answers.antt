use Rattle.executor_laws.proofs.Policies
use Rattle.executor_laws.proofs.sweeps.tasks_are_cancelled_once.Goals as goal

pub returns : goal.returns
returns c = Policies.tasks_are_cancelled_once
