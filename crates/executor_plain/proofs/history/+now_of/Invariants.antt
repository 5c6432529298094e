use Rattle.std.proofs.Common.{length}
use Rattle.executor_plain.proofs.history.+now_of.Given as goal

abbrev pub decreases-now_of : goal.decreases-now_of
decreases-now_of g l = length l.past.now
