use Rattle.trace_text.proofs.LineTexts.{unread_moment, unread_message}
use Rattle.trace_text.proofs.line.split_one.Goals as goal

pub returns-in_default : goal.returns-in_default
returns-in_default g c = unread_moment c.args.bytes.now c.in_default.ensures

pub returns-in_default-split_message : goal.returns-in_default-split_message
returns-in_default-split_message g c =
    let front = c.in-Some.ensures in
    unread_message c.args.bytes.now c.in-Some.rest.now c.in-Some.moment front.0 front.1 front.2 c.in_default-split_message.ensures
