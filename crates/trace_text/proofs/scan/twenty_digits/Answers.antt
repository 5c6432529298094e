use Rattle.std.proofs.Common.{get_or, refl, arith}
use Rattle.std.proofs.lemmas.Bool.{false≢true}
use Rattle.trace_text.proofs.Digits.{ends_before}
use Rattle.trace_text.proofs.OnePass.{twentieth, too_great, too_long, value_of_twenty}
use Rattle.trace_text.proofs.scan.twenty_digits.Goals as goal

pub returns-in_default : goal.returns-in_default
returns-in_default c = too_great c.args.bytes.now c.args.value c.requires.within c.requires.digits c.requires.value (omega (arith, c.in_default.ensures))

pub overflow_sub-bytes : goal.overflow_sub-bytes
overflow_sub-bytes c = omega (arith, twentieth c.args.bytes.now c.requires.within c.requires.digits)

pub returns-in_default-checked_add : goal.returns-in_default-checked_add
returns-in_default-checked_add c =
    too_great c.args.bytes.now c.args.value c.requires.within c.requires.digits c.requires.value (omega (arith, c.in-Some.ensures, c.in_default-checked_add.ensures))

pub returns-then-has_digit_at : goal.returns-then-has_digit_at
returns-then-has_digit_at c = too_long c.args.bytes.now c.requires.within c.requires.digits (c.if-has_digit_at.ensures.0 refl)

pub returns : goal.returns
returns c = (
  omega (arith, value_of_twenty c.args.bytes.now c.args.value c.requires.within c.requires.digits c.requires.value, c.in-Some.ensures, c.in-Some-checked_add.ensures),
  ends_before c.args.bytes.now 20 (get_or c.args.bytes.now 20 0) refl (λ r. false≢true (c.if-has_digit_at.ensures.1 r)),
)
