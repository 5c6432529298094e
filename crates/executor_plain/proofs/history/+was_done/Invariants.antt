use Rattle.std.proofs.Common.{length}
use Rattle.executor_plain.proofs.history.+was_done.Given as goal

abbrev pub decreases-was_done : goal.decreases-was_done
decreases-was_done g l = length l.past.now
