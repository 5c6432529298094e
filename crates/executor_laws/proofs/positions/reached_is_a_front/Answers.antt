use Rattle.executor_laws.proofs.Reading
use Rattle.executor_laws.proofs.positions.reached_is_a_front.Goals as goal

pub returns : goal.returns
returns c = Reading.reached_is_a_front
