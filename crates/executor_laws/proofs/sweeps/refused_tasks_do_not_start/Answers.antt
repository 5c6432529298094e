use Rattle.executor_laws.proofs.Refusals
use Rattle.executor_laws.proofs.sweeps.refused_tasks_do_not_start.Goals as goal

pub returns : goal.returns
returns c = Refusals.refused_tasks_do_not_start
