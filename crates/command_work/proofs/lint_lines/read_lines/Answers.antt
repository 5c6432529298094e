use Rattle.std.proofs.Common.{arith, inl, inr}
use Rattle.command_work.proofs.lint_lines.read_lines.Goals as goal

pub returns-in-Err-clause-text : goal.returns-in-Err-clause-text
returns-in-Err-clause-text g c = inl (rw c.in-Err.is at c.in_ok-text.ensures.text)

pub returns-then-len-gt-MOST_BYTES-clause-text : goal.returns-then-len-gt-MOST_BYTES-clause-text
returns-then-len-gt-MOST_BYTES-clause-text g c =
    inr (c.in-Ok.text.items, rw c.in-Ok.is at c.in_ok-text.ensures.text, omega (arith, c.if-len-gt-MOST_BYTES.true, c.len.ensures, c.in-Ok.text.ok.0))

pub returns-clause-text : goal.returns-clause-text
returns-clause-text g c = (
  rw c.in-Ok.is at c.in_ok-text.ensures.text,
  omega (arith, c.if-len-gt-MOST_BYTES.false, c.len.ensures, c.in-Ok.text.ok.0),
)
