use Rattle.std.proofs.Common.{◌≡◌}
use Rattle.word_tests.proofs.cells.look_for.Given as goal

abbrev pub invariant-loop : goal.invariant-loop
invariant-loop l = l.note.cell ≡ l.cell
