use Rattle.executor_laws.proofs.Endings
use Rattle.executor_laws.proofs.laws.nothing_starts_once_done.Goals as goal

pub returns : goal.returns
returns c = Endings.nothing_starts_once_done
