use Rattle.executor_laws.proofs.Flows
use Rattle.executor_laws.proofs.laws.flows_are_answered.Goals as goal

pub returns : goal.returns
returns c = Flows.flows_are_answered
