use Rattle.std.proofs.Common.{length}
use Rattle.executor_plain.proofs.history.+finishes.Given as goal

abbrev pub decreases-finishes : goal.decreases-finishes
decreases-finishes g l = length l.past.now
