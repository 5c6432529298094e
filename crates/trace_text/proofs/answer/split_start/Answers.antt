use Rattle.std.proofs.Common.{◌^◌, codes}
use Rattle.std.specs.Fmt.{decimal}
use Rattle.trace_text.specs.Reading.{Below, text_then}
use Rattle.trace_text.proofs.Parts.{first_part}
use Rattle.trace_text.proofs.LineForms.{given_text, FitsGiven, due_text, FitsDue, behind_worker, behind_task, behind_run, unread_given, unread_task}
use Rattle.trace_text.proofs.LineTexts.{unread_start}
use Rattle.trace_text.proofs.answer.split_start.Goals as goal

pub returns-in_default : goal.returns-in_default
returns-in_default c =
    unread_start c.args.bytes.now
    (first_part decimal (Below (2 ^ 8)) (codes " ") given_text FitsGiven c.args.bytes.now c.in_default.ensures)

pub returns-in_default-strip_short_word-2 : goal.returns-in_default-strip_short_word-2
returns-in_default-strip_short_word-2 c =
    unread_start c.args.bytes.now
    (behind_worker c.args.bytes.now c.in-Some.rest.now c.in-Some.worker c.in-Some.ensures
    (unread_given c.in-Some.rest.now c.in_default-strip_short_word.ensures c.in_default-strip_short_word-2.ensures))

pub returns-in_default-code_before_short_word : goal.returns-in_default-code_before_short_word
returns-in_default-code_before_short_word c =
    unread_start c.args.bytes.now
    (behind_worker c.args.bytes.now c.in-Some.rest.now c.in-Some.worker c.in-Some.ensures
    (unread_task c.in-Some.rest.now c.in-Some-strip_short_word-2.rest.now c.in-Some-strip_short_word-2.ensures
    (first_part decimal (Below (2 ^ 32)) (codes " run ") due_text FitsDue c.in-Some-strip_short_word-2.rest.now c.in_default-code_before_short_word.ensures)))

pub returns-in_default-number_before_short_word : goal.returns-in_default-number_before_short_word
returns-in_default-number_before_short_word c =
    unread_start c.args.bytes.now
    (behind_worker c.args.bytes.now c.in-Some.rest.now c.in-Some.worker c.in-Some.ensures
    (unread_task c.in-Some.rest.now c.in-Some-strip_short_word-2.rest.now c.in-Some-strip_short_word-2.ensures
    (behind_task c.in-Some-strip_short_word-2.rest.now c.in-Some-code_before_short_word.rest.now c.in-Some-code_before_short_word.task c.in-Some-code_before_short_word.ensures
    (first_part decimal (Below (2 ^ 64)) (codes " due ") (text_then decimal (codes "\n")) (Below (2 ^ 64)) c.in-Some-code_before_short_word.rest.now c.in_default-number_before_short_word.ensures))))

pub returns-in_default-number_before : goal.returns-in_default-number_before
returns-in_default-number_before c =
    unread_start c.args.bytes.now
    (behind_worker c.args.bytes.now c.in-Some.rest.now c.in-Some.worker c.in-Some.ensures
    (unread_task c.in-Some.rest.now c.in-Some-strip_short_word-2.rest.now c.in-Some-strip_short_word-2.ensures
    (behind_task c.in-Some-strip_short_word-2.rest.now c.in-Some-code_before_short_word.rest.now c.in-Some-code_before_short_word.task c.in-Some-code_before_short_word.ensures
    (behind_run c.in-Some-code_before_short_word.rest.now c.in-Some-number_before_short_word.rest.now c.in-Some-number_before_short_word.run' c.in-Some-number_before_short_word.ensures c.in_default-number_before.ensures))))
