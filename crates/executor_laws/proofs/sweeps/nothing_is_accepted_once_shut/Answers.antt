use Rattle.executor_laws.proofs.Refusals
use Rattle.executor_laws.proofs.sweeps.nothing_is_accepted_once_shut.Goals as goal

pub returns : goal.returns
returns c = Refusals.nothing_is_accepted_once_shut
