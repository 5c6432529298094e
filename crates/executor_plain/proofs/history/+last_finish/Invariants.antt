use Rattle.std.proofs.Common.{length}
use Rattle.executor_plain.proofs.history.+last_finish.Given as goal

abbrev pub decreases-last_finish : goal.decreases-last_finish
decreases-last_finish g l = length l.past.now
