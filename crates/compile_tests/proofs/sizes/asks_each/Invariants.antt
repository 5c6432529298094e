use Rattle.queue_code.specs.Cursors.{IsCursorOf}
use Rattle.compile_tests.proofs.sizes.asks_each.Given as goal

abbrev pub invariant-loop-call : goal.invariant-loop-call
invariant-loop-call l = IsCursorOf l.code l.cursor
