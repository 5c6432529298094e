use Rattle.std.proofs.Common.{length}
use Rattle.executor_plain.proofs.history.+was_stopped.Given as goal

abbrev pub decreases-was_stopped : goal.decreases-was_stopped
decreases-was_stopped g l = length l.past.now
