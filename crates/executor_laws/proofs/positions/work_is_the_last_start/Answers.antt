use Rattle.executor_laws.proofs.Places
use Rattle.executor_laws.proofs.positions.work_is_the_last_start.Goals as goal

pub returns : goal.returns
returns c = Places.work_is_the_last_start
