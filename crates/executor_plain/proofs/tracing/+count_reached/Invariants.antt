use Rattle.std.proofs.Common.{length}
use Rattle.executor_plain.proofs.tracing.+count_reached.Given as goal

abbrev pub decreases-count_reached : goal.decreases-count_reached
decreases-count_reached l = length l.calls.now
