use Rattle.executor_laws.proofs.Places
use Rattle.executor_laws.proofs.positions.none_is_enabled.Goals as goal

pub returns : goal.returns
returns c = Places.none_is_enabled
