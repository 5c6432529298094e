use Rattle.std.proofs.Common.{arith}
use Rattle.std.specs.Prelude.{codes}
use Rattle.call_text.specs.Spelling.{FitsPeriod}
use Rattle.call_text.proofs.CallTexts.{unread_other, span_small}
use Rattle.call_text.proofs.spans.last_period.Goals as goal

pub returns-then-number-eq0 : goal.returns-then-number-eq0
returns-then-number-eq0 c =
    let front = c.in-Some.ensures in
    let n = c.in-Some.number in
    unread_other FitsPeriod (λ m f. f.1) c.args.bytes.now (codes "\n") c.in-Some.rest.now n (span_small n front.0) front.1 (λ r. omega (arith, r)) (omega arith) (λ f. omega (arith, f.0, c.if-number-eq0.true))
