use Rattle.executor_laws.proofs.Repeats
use Rattle.executor_laws.proofs.laws.ties_go_by_submission.Goals as goal

pub returns : goal.returns
returns c = Repeats.ties_go_by_submission
