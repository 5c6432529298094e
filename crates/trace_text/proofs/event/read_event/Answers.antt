use Rattle.std.proofs.Common.{[], append-nil, sym, ◌∙◌}
use Rattle.trace_text.specs.Spelling.{event_line}
use Rattle.trace_text.proofs.EventTexts.{nothing_behind}
use Rattle.trace_text.proofs.event.read_event.Goals as goal

pub returns-in_default : goal.returns-in_default
returns-in_default c = λ e fits h. c.in_default.ensures e [] fits (h ∙ sym (append-nil (event_line e)))

pub returns-then-not-is_empty : goal.returns-then-not-is_empty
returns-then-not-is_empty c =
    let front = c.in-Some.ensures in
    nothing_behind c.args.line.now c.in-Some.rest.now c.in-Some.event front.0 front.1 c.if-not-is_empty.ensures
