use Rattle.std.proofs.Common.{length}
use Rattle.executor_plain.proofs.history.+was_cancelled.Given as goal

abbrev pub decreases-was_cancelled : goal.decreases-was_cancelled
decreases-was_cancelled g l = length l.past.now
