use Rattle.std.proofs.Common.{◌^◌, codes}
use Rattle.std.specs.Fmt.{decimal}
use Rattle.trace_text.specs.Spelling.{whether_text}
use Rattle.trace_text.specs.Reading.{Below, Any, text_then}
use Rattle.trace_text.proofs.Parts.{first_part}
use Rattle.trace_text.proofs.LineForms.{running_text, FitsRunning, ends_text, FitsEnds, behind_queue, behind_running, behind_shutdown}
use Rattle.trace_text.proofs.LineTexts.{unread_ask}
use Rattle.trace_text.proofs.answer.split_ask.Goals as goal

pub returns-in_default : goal.returns-in_default
returns-in_default c =
    unread_ask c.args.bytes.now
    (first_part decimal (Below (2 ^ 32)) (codes " running ") running_text FitsRunning c.args.bytes.now c.in_default.ensures)

pub returns-in_default-code_before : goal.returns-in_default-code_before
returns-in_default-code_before c =
    unread_ask c.args.bytes.now
    (behind_queue c.args.bytes.now c.in-Some.rest.now c.in-Some.queue c.in-Some.ensures
    (first_part decimal (Below (2 ^ 32)) (codes " shutdown ") ends_text FitsEnds c.in-Some.rest.now c.in_default-code_before.ensures))

pub returns-in_default-split_whether : goal.returns-in_default-split_whether
returns-in_default-split_whether c =
    unread_ask c.args.bytes.now
    (behind_queue c.args.bytes.now c.in-Some.rest.now c.in-Some.queue c.in-Some.ensures
    (behind_running c.in-Some.rest.now c.in-Some-code_before.rest.now c.in-Some-code_before.running c.in-Some-code_before.ensures
    (first_part whether_text Any (codes " terminated ") (text_then whether_text (codes "\n")) Any c.in-Some-code_before.rest.now c.in_default-split_whether.ensures)))

pub returns-in_default-split_whether-2 : goal.returns-in_default-split_whether-2
returns-in_default-split_whether-2 c =
    unread_ask c.args.bytes.now
    (behind_queue c.args.bytes.now c.in-Some.rest.now c.in-Some.queue c.in-Some.ensures
    (behind_running c.in-Some.rest.now c.in-Some-code_before.rest.now c.in-Some-code_before.running c.in-Some-code_before.ensures
    (behind_shutdown c.in-Some-code_before.rest.now c.in-Some-split_whether.rest.now c.in-Some-split_whether.shutdown c.in-Some-split_whether.ensures c.in_default-split_whether-2.ensures)))
