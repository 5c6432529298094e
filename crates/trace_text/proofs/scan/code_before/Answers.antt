use Rattle.std.proofs.Common.{◌^◌, arith}
use Rattle.trace_text.proofs.Choice.{unread_great}
use Rattle.trace_text.proofs.scan.code_before.Goals as goal

pub returns-then-number : goal.returns-then-number
returns-then-number c =
    let front = c.in-Some.ensures in
    unread_great (2 ^ 32) c.args.bytes.now c.args.word.now c.in-Some.rest.now c.in-Some.number (omega arith) front.0 front.1 c.requires.plain c.requires.some (omega (arith, c.if-number.true))
