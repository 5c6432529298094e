use Rattle.std.proofs.Common.{length}
use Rattle.executor_plain.proofs.tasks.+count_tasks.Given as goal

abbrev pub decreases-count_tasks : goal.decreases-count_tasks
decreases-count_tasks l = length l.calls.now
