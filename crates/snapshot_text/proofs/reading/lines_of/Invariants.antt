use Rattle.std.proofs.Common.{◌≤◌}
use Rattle.snapshot_text.proofs.reading.lines_of.Given as goal

abbrev pub invariant-loop-i : goal.invariant-loop-i
invariant-loop-i l = l.count ≤ l.i
