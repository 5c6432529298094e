use Rattle.call_text.proofs.CallTexts.{unread_words, unread_rate, unread_fixed, unread_policy}
use Rattle.call_text.proofs.call.split_named.Goals as goal

pub returns-in_err-first : goal.returns-in_err-first
returns-in_err-first c =
    let there = c.in-Some-strip_word-2 in
    let none = unread_rate c.args.bytes.now there.rest.now there.ensures c.in_err-first.ensures in
    rw (c.from_residual-in_err-first.ensures) none

pub returns-in_err-first-2 : goal.returns-in_err-first-2
returns-in_err-first-2 c =
    let there = c.in-Some-strip_word-3 in
    let none = unread_fixed c.args.bytes.now there.rest.now there.ensures c.in_err-first-2.ensures in
    rw (c.from_residual-in_err-first-2.ensures) none

pub returns-in_err-which : goal.returns-in_err-which
returns-in_err-which c =
    let there = c.in-Some-strip_word-5 in
    let none = unread_policy c.args.bytes.now there.rest.now there.ensures c.in_err-which.ensures in
    rw (c.from_residual-in_err-which.ensures) none

pub returns : goal.returns
returns c =
    unread_words c.args.bytes.now c.in_default.ensures c.in_default-strip_word.ensures c.in_default-strip_word-2.ensures c.in_default-strip_word-3.ensures c.in_default-strip_word-4.ensures c.in_default-strip_word-5.ensures c.in_default-strip_word-6.ensures c.in_default-strip_word-7.ensures c.in_default-strip_word-8.ensures
