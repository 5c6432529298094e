use Rattle.std.proofs.Common.{◌^◌, codes}
use Rattle.std.specs.Fmt.{decimal}
use Rattle.trace_text.specs.Spelling.{effect_text}
use Rattle.trace_text.specs.Reading.{Below, Any, text_then}
use Rattle.trace_text.proofs.Parts.{first_part}
use Rattle.trace_text.proofs.LineForms.{behind_cancelled}
use Rattle.trace_text.proofs.answer.split_cancel.Goals as goal

pub returns-in_default : goal.returns-in_default
returns-in_default c = λ v tail fits h.
    first_part decimal (Below (2 ^ 32)) (codes " ") (text_then effect_text (codes "\n")) Any c.args.bytes.now c.in_default.ensures v tail (fits, tt) h

pub returns-in_default-split_effect : goal.returns-in_default-split_effect
returns-in_default-split_effect c = behind_cancelled c.args.bytes.now c.in-Some.rest.now c.in-Some.task c.in-Some.ensures c.in_default-split_effect.ensures
