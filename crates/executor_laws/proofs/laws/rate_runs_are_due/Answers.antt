use Rattle.executor_laws.proofs.Repeats
use Rattle.executor_laws.proofs.laws.rate_runs_are_due.Goals as goal

pub returns : goal.returns
returns c = Repeats.rate_runs_are_due
