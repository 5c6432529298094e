use Rattle.std.proofs.Common.{length}
use Rattle.executor_plain.proofs.history.+starts.Given as goal

abbrev pub decreases-starts : goal.decreases-starts
decreases-starts g l = length l.past.now
