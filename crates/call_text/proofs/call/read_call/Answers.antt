use Rattle.std.proofs.Common.{[], append-nil, sym, ◌∙◌}
use Rattle.call_text.specs.Spelling.{call_line}
use Rattle.call_text.proofs.CallTexts.{nothing_behind_call}
use Rattle.call_text.proofs.call.read_call.Goals as goal

pub returns-in_default : goal.returns-in_default
returns-in_default c = λ call fits h. c.in_default.ensures call [] fits (h ∙ sym (append-nil (call_line call)))

pub returns-then-not-is_empty : goal.returns-then-not-is_empty
returns-then-not-is_empty c =
    let front = c.in-Some.ensures in
    nothing_behind_call c.args.line.now c.in-Some.rest.now c.in-Some.call front.0 front.1 c.if-not-is_empty.ensures
