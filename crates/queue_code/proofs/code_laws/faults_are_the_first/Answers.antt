use Rattle.queue_code.proofs.LeastFault.{least_index, nothing_wrong}
use Rattle.queue_code.proofs.code_laws.faults_are_the_first.Goals as goal

pub returns : goal.returns
returns c = record { least = least_index; none = nothing_wrong }
