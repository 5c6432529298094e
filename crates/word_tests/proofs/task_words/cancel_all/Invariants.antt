use Rattle.std.proofs.Common.{◌≡◌}
use Rattle.word_tests.proofs.task_words.cancel_all.Given as goal

abbrev pub invariant-loop-task : goal.invariant-loop-task
invariant-loop-task l = l.handle.table ≡ l.words.table
