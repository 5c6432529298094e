use Rattle.executor_laws.proofs.NoLoss
use Rattle.executor_laws.proofs.turns.no_task_is_lost.Goals as goal

pub returns : goal.returns
returns c = NoLoss.no_task_is_lost
