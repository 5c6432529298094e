use Rattle.std.proofs.Common.{length}
use Rattle.executor_plain.proofs.history.+policies_of.Given as goal

abbrev pub decreases-policies_of : goal.decreases-policies_of
decreases-policies_of g l = length l.past.now
