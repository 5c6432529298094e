use Rattle.executor_laws.proofs.Endings
use Rattle.executor_laws.proofs.laws.one_shots_run_once.Goals as goal

pub returns : goal.returns
returns c = Endings.one_shots_run_once
