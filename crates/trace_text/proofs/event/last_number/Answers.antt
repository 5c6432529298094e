use Rattle.std.proofs.Common.{arith}
use Rattle.std.specs.Prelude.{codes}
use Rattle.trace_text.proofs.Choice.{unread_word}
use Rattle.trace_text.proofs.event.last_number.Goals as goal

pub returns-in_default-strip : goal.returns-in_default-strip
returns-in_default-strip c =
    let front = c.in-Some.ensures in
    unread_word c.args.bytes.now (codes "\n") c.in-Some.rest.now c.in-Some.number front.2 front.1 front.0 (λ r. absurd (omega (arith, r))) (omega arith) c.in_default-strip.ensures
