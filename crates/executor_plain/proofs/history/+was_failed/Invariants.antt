use Rattle.std.proofs.Common.{length}
use Rattle.executor_plain.proofs.history.+was_failed.Given as goal

abbrev pub decreases-was_failed : goal.decreases-was_failed
decreases-was_failed g l = length l.past.now
