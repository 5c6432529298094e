use Rattle.std.proofs.Common.{◌≡◌}
use Rattle.word_tests.proofs.task_words.submit_all.Given as goal

abbrev pub invariant-loop-task : goal.invariant-loop-task
invariant-loop-task l = l.core.table ≡ l.words.table
