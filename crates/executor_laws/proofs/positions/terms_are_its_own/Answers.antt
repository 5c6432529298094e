use Rattle.executor_laws.proofs.Reading
use Rattle.executor_laws.proofs.positions.terms_are_its_own.Goals as goal

pub returns : goal.returns
returns c = Reading.terms_are_its_own
