use Rattle.executor_laws.proofs.Reading
use Rattle.executor_laws.proofs.positions.flow_makes_what_is_reached.Goals as goal

pub returns : goal.returns
returns c = Reading.flow_makes_what_is_reached
