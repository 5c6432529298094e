use Rattle.std.proofs.Common.{◌≡◌}
use Rattle.word_tests.proofs.word_tables.live_all.Given as goal

abbrev pub invariant-loop-task : goal.invariant-loop-task
invariant-loop-task g l = l.core.table ≡ l.words.table
