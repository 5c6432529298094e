use Rattle.std.proofs.Common.{codes}
use Rattle.trace_text.proofs.LineTexts.{unread_words, unread_behind, unread_cancel, unread_outside}
use Rattle.trace_text.proofs.message.split_message.Goals as goal

pub returns : goal.returns
returns g c =
    unread_words c.args.bytes.now c.in_default.ensures c.in_default-strip_short_word.ensures c.in_default-strip_short_word-2.ensures c.in_default-strip_short_word-3.ensures c.in_default-strip_short_word-4.ensures c.in_default-strip_word.ensures c.in_default-strip_short_word-5.ensures c.in_default-strip_short_word-6.ensures c.in_default-strip_short_word-7.ensures c.in_default-strip_word-2.ensures c.in_default-strip_short_word-8.ensures c.in_default-strip_word-3.ensures c.in_default-strip_short_word-9.ensures

pub returns-in_err-task : goal.returns-in_err-task
returns-in_err-task g c =
    let rest = c.in-Some-strip_word.rest.now in
    let none = unread_behind (codes " outside ") c.args.bytes.now rest c.in-Some-strip_word.ensures (unread_outside rest (c.in_err-task.ensures)) in
    rw (c.from_residual.ensures) none

pub returns-in_err-task-2 : goal.returns-in_err-task-2
returns-in_err-task-2 g c =
    let rest = c.in-Some-strip_short_word-5.rest.now in
    let none = unread_behind (codes " cancel ") c.args.bytes.now rest c.in-Some-strip_short_word-5.ensures (unread_cancel rest (c.in_err-task-2.ensures)) in
    rw (c.from_residual-in_err-task-2.ensures) none
