use Rattle.std.proofs.Common.{◌^◌, ◌≡◌, length, rules, arith}
use Rattle.trace_text.proofs.Choice.{unread_great}
use Rattle.trace_text.proofs.scan.worker_before_short_word.Goals as goal

pub returns-then-worker : goal.returns-then-worker
returns-then-worker g c =
    let front = c.in-Some.ensures in
    let size : length c.args.word ≡ g.row.N = search rules in
    unread_great (2 ^ 8) c.args.bytes.now c.args.word c.in-Some.rest.now c.in-Some.worker (omega arith) front.0 front.1 c.requires.plain (omega (arith, size, c.requires.long)) (omega (arith, c.if-worker.true))
