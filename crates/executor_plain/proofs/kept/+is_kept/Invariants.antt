use Rattle.std.proofs.Common.{length}
use Rattle.executor_plain.proofs.kept.+is_kept.Given as goal

abbrev pub decreases-is_kept : goal.decreases-is_kept
decreases-is_kept g l = length l.past.now
