use Rattle.queue_code.specs.Cursors.{IsCursorOf}
use Rattle.meaning_tests.proofs.codes.walks.submits_each.Given as goal

abbrev pub invariant-loop-task : goal.invariant-loop-task
invariant-loop-task l = IsCursorOf l.code l.cursor
