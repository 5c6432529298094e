use Rattle.executor_laws.proofs.StartLaws
use Rattle.executor_laws.proofs.laws.starts_are_in_order.Goals as goal

pub returns : goal.returns
returns c = StartLaws.starts_are_in_order
