use Rattle.std.proofs.Common.{◌^◌, ◌≡◌, length, rules, arith}
use Rattle.trace_text.proofs.Choice.{unread_great}
use Rattle.trace_text.proofs.scan.code_before_short_word.Goals as goal

pub returns-then-code : goal.returns-then-code
returns-then-code g c =
    let front = c.in-Some.ensures in
    let size : length c.args.word ≡ g.row.N = search rules in
    unread_great (2 ^ 32) c.args.bytes.now c.args.word c.in-Some.rest.now c.in-Some.code (omega arith) front.0 front.1 c.requires.plain (omega (arith, size, c.requires.long)) (omega (arith, c.if-code.true))
