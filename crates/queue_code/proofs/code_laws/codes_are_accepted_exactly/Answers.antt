use Rattle.queue_code.proofs.Shapes.{accepted_exactly}
use Rattle.queue_code.proofs.code_laws.codes_are_accepted_exactly.Goals as goal

pub returns : goal.returns
returns c = accepted_exactly
