use Rattle.executor_laws.proofs.Flows
use Rattle.executor_laws.proofs.laws.one_history.Goals as goal

pub returns : goal.returns
returns c = Flows.one_history
