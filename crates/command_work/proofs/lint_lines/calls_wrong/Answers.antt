use Rattle.std.proofs.Common.{rules, inl, inr, length, ◌≡◌}
use Rattle.command_work.proofs.lint_lines.calls_wrong.Goals as goal

pub returns-in-Err-clause-finds : goal.returns-in-Err-clause-finds
returns-in-Err-clause-finds g c = inl (rw c.in-Err.is at c.in_ok-text.ensures.text)

pub returns-in-Some-clause-finds : goal.returns-in-Some-clause-finds
returns-in-Some-clause-finds g c =
    inr (c.in-Ok.text.items, rw c.in-Ok.is at c.in_ok-text.ensures.text, λ are. let none = (rw c.deref.ensures.value at c.in-Some.ensures.only) are in cc)

pub returns-clause-finds : goal.returns-clause-finds
returns-clause-finds g c =
    let none : length c.new.result.items ≡ 0 = search rules in
    ((c.in-Ok.text.items, rw c.in-Ok.is at c.in_ok-text.ensures.text, rw c.deref.ensures.value at c.in-None.ensures.fine), none)
