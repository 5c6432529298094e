use Rattle.executor_model.proofs.Agree.{after_agrees}
use Rattle.executor_laws.proofs.laws.states_answer.Goals as goal

pub returns : goal.returns
returns c = λ calls workers past m. (after_agrees calls workers past m).view
