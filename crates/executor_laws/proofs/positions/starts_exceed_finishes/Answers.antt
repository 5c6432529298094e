use Rattle.executor_laws.proofs.Places
use Rattle.executor_laws.proofs.positions.starts_exceed_finishes.Goals as goal

pub returns : goal.returns
returns c = Places.starts_exceed_finishes
