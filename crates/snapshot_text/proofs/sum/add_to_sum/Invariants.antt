use Rattle.std.proofs.Common.{◌≡◌}
use Rattle.std.specs.Prelude.{take}
use Rattle.snapshot_text.specs.Sums.{sum_from}
use Rattle.snapshot_text.proofs.sum.add_to_sum.Given as goal

abbrev pub invariant-loop-i : goal.invariant-loop-i
invariant-loop-i l = l.sum ≡ sum_from l.so_far (take l.i l.bytes)
