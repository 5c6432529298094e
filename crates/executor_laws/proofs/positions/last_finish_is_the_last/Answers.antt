use Rattle.executor_laws.proofs.Waiting
use Rattle.executor_laws.proofs.positions.last_finish_is_the_last.Goals as goal

pub returns : goal.returns
returns c = Waiting.last_finish_is_the_last
