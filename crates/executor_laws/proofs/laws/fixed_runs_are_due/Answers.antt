use Rattle.executor_laws.proofs.Repeats
use Rattle.executor_laws.proofs.laws.fixed_runs_are_due.Goals as goal

pub returns : goal.returns
returns c = Repeats.fixed_runs_are_due
