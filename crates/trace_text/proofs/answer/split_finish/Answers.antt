use Rattle.std.proofs.Common.{◌^◌, codes}
use Rattle.std.specs.Fmt.{decimal}
use Rattle.trace_text.specs.Spelling.{FitsOutcome}
use Rattle.trace_text.specs.Reading.{Below}
use Rattle.trace_text.proofs.Parts.{first_part}
use Rattle.trace_text.proofs.LineForms.{task_ended_text, FitsTaskEnded, ended_text, FitsEnded, behind_ended_worker, behind_ended_task, behind_ended_run}
use Rattle.trace_text.proofs.LineWords.{outcome_words, unread_outcome}
use Rattle.trace_text.proofs.LineTexts.{read_finish, unread_finish}
use Rattle.trace_text.proofs.answer.split_finish.Goals as goal

pub returns-in_default : goal.returns-in_default
returns-in_default c =
    unread_finish c.args.bytes.now
    (first_part decimal (Below (2 ^ 8)) (codes " task ") task_ended_text FitsTaskEnded c.args.bytes.now c.in_default.ensures)

pub returns-in_default-code_before_short_word : goal.returns-in_default-code_before_short_word
returns-in_default-code_before_short_word c =
    unread_finish c.args.bytes.now
    (behind_ended_worker c.args.bytes.now c.in-Some.rest.now c.in-Some.worker c.in-Some.ensures
    (first_part decimal (Below (2 ^ 32)) (codes " run ") ended_text FitsEnded c.in-Some.rest.now c.in_default-code_before_short_word.ensures))

pub returns-in_default-number_before : goal.returns-in_default-number_before
returns-in_default-number_before c =
    unread_finish c.args.bytes.now
    (behind_ended_worker c.args.bytes.now c.in-Some.rest.now c.in-Some.worker c.in-Some.ensures
    (behind_ended_task c.in-Some.rest.now c.in-Some-code_before_short_word.rest.now c.in-Some-code_before_short_word.task c.in-Some-code_before_short_word.ensures
    (first_part decimal (Below (2 ^ 64)) (codes " ") outcome_words FitsOutcome c.in-Some-code_before_short_word.rest.now c.in_default-number_before.ensures)))

pub returns-in_default-split_outcome : goal.returns-in_default-split_outcome
returns-in_default-split_outcome c =
    unread_finish c.args.bytes.now
    (behind_ended_worker c.args.bytes.now c.in-Some.rest.now c.in-Some.worker c.in-Some.ensures
    (behind_ended_task c.in-Some.rest.now c.in-Some-code_before_short_word.rest.now c.in-Some-code_before_short_word.task c.in-Some-code_before_short_word.ensures
    (behind_ended_run c.in-Some-code_before_short_word.rest.now c.in-Some-number_before.rest.now c.in-Some-number_before.run' c.in-Some-number_before.ensures
    (unread_outcome c.in-Some-number_before.rest.now c.in_default-split_outcome.ensures))))

pub returns : goal.returns
returns c =
    rw c.finish.ensures.message
    (read_finish c.args.bytes.now c.in-Some.rest.now c.in-Some-code_before_short_word.rest.now c.in-Some-number_before.rest.now c.in-Some-split_outcome.rest.now c.in-Some.worker c.in-Some-code_before_short_word.task
    c.in-Some-number_before.run' c.in-Some-split_outcome.outcome c.in-Some.ensures c.in-Some-code_before_short_word.ensures c.in-Some-number_before.ensures c.in-Some-split_outcome.ensures)
