use Rattle.executor_laws.proofs.CancelNeeds
use Rattle.executor_laws.proofs.cancels.outside_needs_its_cancel.Goals as goal

pub returns : goal.returns
returns c = CancelNeeds.outside_needs_its_cancel
