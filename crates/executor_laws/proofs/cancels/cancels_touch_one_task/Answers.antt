use Rattle.executor_laws.proofs.CancelSteps
use Rattle.executor_laws.proofs.cancels.cancels_touch_one_task.Goals as goal

pub returns : goal.returns
returns c = CancelSteps.cancels_touch_one_task
