use Rattle.executor_laws.proofs.Reading
use Rattle.executor_laws.proofs.positions.flow_may_come.Goals as goal

pub returns : goal.returns
returns c = Reading.flow_may_come
