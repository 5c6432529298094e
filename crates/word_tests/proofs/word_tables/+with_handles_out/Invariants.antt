use Rattle.word_tests.proofs.word_tables.+with_handles_out.Given as goal

abbrev pub decreases-with_handles_out : goal.decreases-with_handles_out
decreases-with_handles_out g l = l.left
