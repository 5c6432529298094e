use Rattle.std.proofs.Common.{length}
use Rattle.executor_plain.proofs.tasks.+first_due.Given as goal

abbrev pub decreases-first_due : goal.decreases-first_due
decreases-first_due l = length l.calls.now
