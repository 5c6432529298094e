use Rattle.executor_laws.proofs.Termination
use Rattle.executor_laws.proofs.sweeps.queued_and_running_are_tasks.Goals as goal

pub returns : goal.returns
returns c = Termination.queued_and_running_are_tasks
