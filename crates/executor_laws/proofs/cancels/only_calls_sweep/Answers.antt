use Rattle.executor_laws.proofs.CancelNeeds
use Rattle.executor_laws.proofs.cancels.only_calls_sweep.Goals as goal

pub returns : goal.returns
returns c = CancelNeeds.only_calls_sweep
