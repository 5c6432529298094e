use Rattle.executor_laws.proofs.Repeats
use Rattle.executor_laws.proofs.laws.nothing_starts_after_a_failure.Goals as goal

pub returns : goal.returns
returns c = Repeats.nothing_starts_after_a_failure
