use Rattle.queue_code.proofs.Soundness.{sound}
use Rattle.queue_code.proofs.code_laws.codes_are_orderly.Goals as goal

pub returns : goal.returns
returns c = λ code timed none. (sound code timed none).order
