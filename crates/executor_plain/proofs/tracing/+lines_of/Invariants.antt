use Rattle.std.proofs.Common.{length}
use Rattle.executor_plain.proofs.tracing.+lines_of.Given as goal

abbrev pub decreases-lines_of : goal.decreases-lines_of
decreases-lines_of g l = length l.past.now
