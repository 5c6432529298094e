use Rattle.std.proofs.Common.{length}
use Rattle.executor_plain.proofs.tasks.+timing_of.Given as goal

abbrev pub decreases-timing_of : goal.decreases-timing_of
decreases-timing_of l = length l.calls.now
