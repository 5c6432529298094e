use Rattle.executor_laws.proofs.StartLaws
use Rattle.executor_laws.proofs.laws.answers_by_position.Goals as goal

pub returns : goal.returns
returns c = StartLaws.answers_by_position
