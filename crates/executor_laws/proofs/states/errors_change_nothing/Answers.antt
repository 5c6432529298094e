use Rattle.executor_model.proofs.Errors
use Rattle.executor_laws.proofs.states.errors_change_nothing.Goals as goal

pub returns : goal.returns
returns c = Errors.errors_change_nothing
