use Rattle.std.proofs.Common.{◌≡◌}
use Rattle.word_tests.proofs.moves.cut_off.Given as goal

abbrev pub invariant-loop : goal.invariant-loop
invariant-loop g l = l.core.table ≡ l.words.table
