use Rattle.executor_laws.proofs.Termination
use Rattle.executor_laws.proofs.sweeps.nothing_starts_once_terminated.Goals as goal

pub returns : goal.returns
returns c = Termination.nothing_starts_once_terminated
