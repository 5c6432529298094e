use Rattle.executor_laws.proofs.Endings
use Rattle.executor_laws.proofs.laws.runs_are_numbered.Goals as goal

pub returns : goal.returns
returns c = Endings.runs_are_numbered
