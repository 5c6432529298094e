use Rattle.std.proofs.Common.{◌^◌, codes}
use Rattle.std.specs.Fmt.{decimal}
use Rattle.trace_text.specs.Spelling.{refusal_text}
use Rattle.trace_text.specs.Reading.{Below, Any, text_then}
use Rattle.trace_text.proofs.Parts.{first_part}
use Rattle.trace_text.proofs.LineForms.{behind_refused}
use Rattle.trace_text.proofs.LineTexts.{unread_refuse}
use Rattle.trace_text.proofs.answer.split_refuse.Goals as goal

pub returns-in_default : goal.returns-in_default
returns-in_default c =
    unread_refuse c.args.bytes.now
    (first_part decimal (Below (2 ^ 32)) (codes " ") (text_then refusal_text (codes "\n")) Any c.args.bytes.now c.in_default.ensures)

pub returns-in_default-split_refusal : goal.returns-in_default-split_refusal
returns-in_default-split_refusal c =
    unread_refuse c.args.bytes.now
    (behind_refused c.args.bytes.now c.in-Some.rest.now c.in-Some.task c.in-Some.ensures c.in_default-split_refusal.ensures)
