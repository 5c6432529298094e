use Rattle.executor_laws.proofs.Reading
use Rattle.executor_laws.proofs.positions.flow_keeps_the_events.Goals as goal

pub returns : goal.returns
returns c = Reading.flow_keeps_the_events
