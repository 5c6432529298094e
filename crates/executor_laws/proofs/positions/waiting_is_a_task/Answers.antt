use Rattle.executor_laws.proofs.Waiting
use Rattle.executor_laws.proofs.positions.waiting_is_a_task.Goals as goal

pub returns : goal.returns
returns c = Waiting.waiting_is_a_task
