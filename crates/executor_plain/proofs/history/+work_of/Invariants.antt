use Rattle.std.proofs.Common.{length}
use Rattle.executor_plain.proofs.history.+work_of.Given as goal

abbrev pub decreases-work_of : goal.decreases-work_of
decreases-work_of g l = length l.past.now
