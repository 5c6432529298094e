use Rattle.trace_text.proofs.Choice.{unread_word}
use Rattle.trace_text.proofs.scan.number_before.Goals as goal

pub returns-in_default-strip : goal.returns-in_default-strip
returns-in_default-strip c =
    let front = c.in-Some.ensures in
    unread_word c.args.bytes.now c.args.word.now c.in-Some.rest.now c.in-Some.number front.2 front.1 front.0 c.requires.plain c.requires.some c.in_default-strip.ensures
