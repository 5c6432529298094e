use Rattle.std.proofs.Common.{◌-◌}
use Rattle.journal_tests.proofs.disks.text_of.Given as goal

abbrev pub decreases-loop-from : goal.decreases-loop-from
decreases-loop-from l = l.bytes - l.from
