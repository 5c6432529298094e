use Rattle.std.proofs.Common.{◌^◌, codes}
use Rattle.std.specs.Fmt.{decimal}
use Rattle.trace_text.specs.Spelling.{kind_text}
use Rattle.trace_text.specs.Reading.{Below, Any, text_then}
use Rattle.trace_text.proofs.Parts.{first_part}
use Rattle.trace_text.proofs.LineForms.{kind_due_text, FitsKindDue, behind_submitted, behind_kind}
use Rattle.trace_text.proofs.LineTexts.{unread_submit}
use Rattle.trace_text.proofs.answer.split_submit.Goals as goal

pub returns-in_default : goal.returns-in_default
returns-in_default c =
    unread_submit c.args.bytes.now
    (first_part decimal (Below (2 ^ 32)) (codes " ") kind_due_text FitsKindDue c.args.bytes.now c.in_default.ensures)

pub returns-in_default-split_kind : goal.returns-in_default-split_kind
returns-in_default-split_kind c =
    unread_submit c.args.bytes.now
    (behind_submitted c.args.bytes.now c.in-Some.rest.now c.in-Some.task c.in-Some.ensures
    (first_part kind_text Any (codes " due ") (text_then decimal (codes "\n")) (Below (2 ^ 64)) c.in-Some.rest.now c.in_default-split_kind.ensures))

pub returns-in_default-number_before : goal.returns-in_default-number_before
returns-in_default-number_before c =
    unread_submit c.args.bytes.now
    (behind_submitted c.args.bytes.now c.in-Some.rest.now c.in-Some.task c.in-Some.ensures
    (behind_kind c.in-Some.rest.now c.in-Some-split_kind.rest.now c.in-Some-split_kind.kind c.in-Some-split_kind.ensures c.in_default-number_before.ensures))
