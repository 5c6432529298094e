use Rattle.executor_laws.proofs.Places
use Rattle.executor_laws.proofs.positions.first_is_the_least.Goals as goal

pub returns : goal.returns
returns c = Places.first_is_the_least
