use Rattle.std.proofs.Common.{arith}
use Rattle.call_text.specs.Spelling.{FitsSpan}
use Rattle.call_text.proofs.CallTexts.{unread_other}
use Rattle.call_text.proofs.spans.span_before.Goals as goal

pub returns-then-number-gt-LONGEST : goal.returns-then-number-gt-LONGEST
returns-then-number-gt-LONGEST c =
    let front = c.in-Some.ensures in
    unread_other FitsSpan (λ m f. f) c.args.bytes.now c.args.word.now c.in-Some.rest.now c.in-Some.number front.0 front.1 c.requires.plain c.requires.some (λ f. omega (arith, f, c.if-number-gt-LONGEST.true))
