use Rattle.std.proofs.Common.{◌≡◌}
use Rattle.word_tests.proofs.cells.all_told.Given as goal

abbrev pub invariant-loop-who : goal.invariant-loop-who
invariant-loop-who l = (l.one.cell ≡ l.cell) × (l.two.cell ≡ l.cell)
