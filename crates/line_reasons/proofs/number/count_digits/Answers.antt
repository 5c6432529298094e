use Rattle.std.proofs.Common.{get_or, refl}
use Rattle.std.proofs.lemmas.Bool.Decides.{when_true}
use Rattle.trace_text.proofs.Numbers.{digits_next}
use Rattle.line_reasons.proofs.number.count_digits.Goals as goal

pub loop-index-preserved : goal.loop-index-preserved
loop-index-preserved c =
    let word = c.args.word.now in
    let index = c.loop-index.index in
    let digit = when_true _ _ c.if-not-is_ascii_digit.false c.is_ascii_digit.ensures.cases in
    digits_next word index (get_or word index 0) c.loop-index-test.true refl digit.0 digit.1 c.loop-index.invariant
