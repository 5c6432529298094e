use Rattle.executor_laws.proofs.Stopping
use Rattle.executor_laws.proofs.sweeps.nothing_starts_after_a_stop.Goals as goal

pub returns : goal.returns
returns c = Stopping.nothing_starts_after_a_stop
