use Rattle.executor_laws.proofs.StartLaws
use Rattle.executor_laws.proofs.laws.no_start_is_early.Goals as goal

pub returns : goal.returns
returns c = StartLaws.no_start_is_early
