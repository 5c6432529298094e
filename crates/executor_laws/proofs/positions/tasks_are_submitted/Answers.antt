use Rattle.executor_laws.proofs.Reading
use Rattle.executor_laws.proofs.positions.tasks_are_submitted.Goals as goal

pub returns : goal.returns
returns c = Reading.tasks_are_submitted
