use Rattle.executor_laws.proofs.Repeats
use Rattle.executor_laws.proofs.laws.runs_do_not_overlap.Goals as goal

pub returns : goal.returns
returns c = Repeats.runs_do_not_overlap
