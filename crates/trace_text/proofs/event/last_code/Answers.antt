use Rattle.std.proofs.Common.{◌^◌, arith}
use Rattle.std.specs.Prelude.{codes}
use Rattle.trace_text.proofs.Choice.{unread_great}
use Rattle.trace_text.proofs.event.last_code.Goals as goal

pub returns-then-number : goal.returns-then-number
returns-then-number c =
    let front = c.in-Some.ensures in
    unread_great (2 ^ 32) c.args.bytes.now (codes "\n") c.in-Some.rest.now c.in-Some.number (omega arith) front.0 front.1 (λ r. absurd (omega (arith, r))) (omega arith) (omega (arith, c.if-number.true))
