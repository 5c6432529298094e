use Rattle.executor_laws.proofs.Endings
use Rattle.executor_laws.proofs.laws.illegal_tasks_do_not_start.Goals as goal

pub returns : goal.returns
returns c = Endings.illegal_tasks_do_not_start
