use Rattle.std.proofs.Common.{length}
use Rattle.executor_plain.proofs.history.+was_accepted.Given as goal

abbrev pub decreases-was_accepted : goal.decreases-was_accepted
decreases-was_accepted g l = length l.past.now
