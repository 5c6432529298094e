use Rattle.std.proofs.Common.{◌≡◌}
use Rattle.word_tests.proofs.scripts.do_steps.Given as goal

abbrev pub invariant-loop-place : goal.invariant-loop-place
invariant-loop-place g l = (l.core.table ≡ l.words.table) × (l.handle.table ≡ l.words.table)
