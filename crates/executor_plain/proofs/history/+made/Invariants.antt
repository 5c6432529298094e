use Rattle.std.proofs.Common.{length}
use Rattle.executor_plain.proofs.history.+made.Given as goal

abbrev pub decreases-made : goal.decreases-made
decreases-made g l = length l.past.now
