use Rattle.executor_model.proofs.Flowing
use Rattle.executor_laws.proofs.laws.histories_are_one.Goals as goal

pub returns : goal.returns
returns c = Flowing.one_answer
