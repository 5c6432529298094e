use Rattle.std.proofs.Common.{◌^◌, arith}
use Rattle.trace_text.proofs.Choice.{unread_great}
use Rattle.snapshot_text.proofs.task.worker_before.Goals as goal

pub returns-then-number : goal.returns-then-number
returns-then-number c =
    let front = c.in-Some.ensures in
    unread_great (2 ^ 8) c.args.bytes.now c.args.word.now c.in-Some.rest.now c.in-Some.number (omega arith) front.0 front.1 c.requires.0 c.requires.1 (omega (arith, c.if-number.true))
