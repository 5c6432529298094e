use Rattle.executor_laws.proofs.Waiting
use Rattle.executor_laws.proofs.positions.finish_keeps_now.Goals as goal

pub returns : goal.returns
returns c = Waiting.finish_keeps_now
