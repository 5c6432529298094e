use Rattle.std.proofs.Common.{[], append-nil, sym, ◌∙◌}
use Rattle.trace_text.specs.Spelling.{line_text}
use Rattle.trace_text.proofs.LineTexts.{nothing_behind_line}
use Rattle.trace_text.proofs.line.read_line.Goals as goal

pub returns-in_default : goal.returns-in_default
returns-in_default c = λ line fits h. c.in_default.ensures line [] fits (h ∙ sym (append-nil (line_text line)))

pub returns-then-not-is_empty : goal.returns-then-not-is_empty
returns-then-not-is_empty c =
    let front = c.in-Some.ensures in
    nothing_behind_line c.args.line.now c.in-Some.found.1.now c.in-Some.found.0 front.0 front.1 c.if-not-is_empty.ensures
