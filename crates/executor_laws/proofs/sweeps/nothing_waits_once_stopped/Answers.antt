use Rattle.executor_laws.proofs.Stopping
use Rattle.executor_laws.proofs.sweeps.nothing_waits_once_stopped.Goals as goal

pub returns : goal.returns
returns c = Stopping.nothing_waits_once_stopped
