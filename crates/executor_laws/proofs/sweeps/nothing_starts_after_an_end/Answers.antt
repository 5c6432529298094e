use Rattle.executor_laws.proofs.Policies
use Rattle.executor_laws.proofs.sweeps.nothing_starts_after_an_end.Goals as goal

pub returns : goal.returns
returns c = Policies.nothing_starts_after_an_end
