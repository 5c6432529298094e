use Rattle.std.proofs.Common.{◌≡◌, length, rules, arith}
use Rattle.trace_text.proofs.Choice.{unread_word}
use Rattle.trace_text.proofs.scan.number_before_short_word.Goals as goal

pub returns-in_default-strip_short_word : goal.returns-in_default-strip_short_word
returns-in_default-strip_short_word g c =
    let front = c.in-Some.ensures in
    let size : length c.args.word ≡ g.row.N = search rules in
    unread_word c.args.bytes.now c.args.word c.in-Some.rest.now c.in-Some.number front.2 front.1 front.0 c.requires.plain (omega (arith, size, c.requires.long)) c.in_default-strip_short_word.ensures
