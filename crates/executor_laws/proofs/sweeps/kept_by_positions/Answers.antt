use Rattle.executor_laws.proofs.Kept
use Rattle.executor_laws.proofs.sweeps.kept_by_positions.Goals as goal

pub returns : goal.returns
returns c = Kept.kept_by_positions
