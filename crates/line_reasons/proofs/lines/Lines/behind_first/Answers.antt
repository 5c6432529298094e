use Rattle.std.proofs.Common.{sym, subst, inr}
use Rattle.trace_text.specs.Reading.{IsRead, IsUnread}
use Rattle.line_reasons.specs.declared.lines.Lines.{Lines}
use Rattle.line_reasons.specs.own.Kinds.{FitsIn, Value, spelling}
use Rattle.line_reasons.proofs.LineKinds.{event_read, none_live}
use Rattle.line_reasons.proofs.lines.Lines.behind_first.Goals as goal

pub returns-in-Some : goal.returns-in-Some
returns-in-Some c = event_read c.args.self c.args.bytes.now c.in-Some.rest.now c.in-Some.field-0-0 c.in-Some.ensures

pub returns-in-Events : goal.returns-in-Events
returns-in-Events c = subst (λ (lines : Lines). IsUnread (spelling lines) (FitsIn lines) c.args.bytes.now) (sym c.in-Events.is) c.in_default.ensures

pub returns-in_default-split_call : goal.returns-in_default-split_call
returns-in_default-split_call c =
    subst (λ (lines : Lines). IsUnread (spelling lines) (FitsIn lines) c.args.bytes.now) (sym c.in-Live.is) (none_live c.args.bytes.now c.in_default.ensures c.in_default-split_call.ensures)

pub returns-in-Some-split_call : goal.returns-in-Some-split_call
returns-in-Some-split_call c =
    subst (λ (lines : Lines). (value : Value lines) × IsRead (spelling lines) (FitsIn lines) c.args.bytes.now value c.in-Some-split_call.rest.now) (sym c.in-Live.is) (inr c.in-Some-split_call.field-0-0, c.in-Some-split_call.ensures)
