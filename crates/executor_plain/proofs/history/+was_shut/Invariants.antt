use Rattle.std.proofs.Common.{length}
use Rattle.executor_plain.proofs.history.+was_shut.Given as goal

abbrev pub decreases-was_shut : goal.decreases-was_shut
decreases-was_shut g l = length l.past.now
