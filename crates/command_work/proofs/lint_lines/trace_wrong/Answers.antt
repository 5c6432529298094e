use Rattle.std.proofs.Common.{inl, inr}
use Rattle.command_work.proofs.lint_lines.trace_wrong.Goals as goal

pub returns-in-Err-clause-finds : goal.returns-in-Err-clause-finds
returns-in-Err-clause-finds g c = inl (rw c.in-Err.is at c.in_ok-text.ensures.text)

pub returns-in-Ok-Some-clause-finds : goal.returns-in-Ok-Some-clause-finds
returns-in-Ok-Some-clause-finds g c =
    let breaks = rw c.in-Ok-Some.field-0-is at c.in-Ok-Some.ensures.breaks in
    inr (c.in-Ok.text.items, rw c.in-Ok.is at c.in_ok-text.ensures.text, c.in-Ok-Some.reason.line, rw c.deref.ensures.value at breaks)

pub returns-in-Ok-None-clause-finds : goal.returns-in-Ok-None-clause-finds
returns-in-Ok-None-clause-finds g c =
    let conforms = rw c.in-Ok-None.field-0-is at c.in-Ok-None.ensures.conforms in
    (c.in-Ok.text.items, rw c.in-Ok.is at c.in_ok-text.ensures.text, rw c.deref.ensures.value at conforms)
