use Rattle.queue_code.specs.Cursors.{IsCursorOf}
use Rattle.meaning_tests.proofs.sizes.walked.Given as goal

abbrev pub invariant-loop : goal.invariant-loop
invariant-loop l = IsCursorOf l.code l.cursor
