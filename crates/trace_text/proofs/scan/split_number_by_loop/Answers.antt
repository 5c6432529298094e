use Rattle.std.proofs.Common.{◌≡◌, ◌+◌, ◌-◌, ◌*◌, ◌^◌, ◌<◌, ◌∙◌, take, ap, sym, subst, refl, arith, length}
use Rattle.std.specs.Str.Parse.{AllDigits, digits_value}
use Rattle.trace_text.proofs.Numbers.{value_next, digits_next}
use Rattle.trace_text.proofs.OnePass.{below_power, power_more, digit_within, digit_inside, twenty_in_front}
use Rattle.trace_text.proofs.scan.split_number_by_loop.Goals as goal

pub loop-i-init : goal.loop-i-init
loop-i-init c = record { digits = tt; value = refl; small = omega arith }

pub number_up_to-requires-clause-digits : goal.number_up_to-requires-clause-digits
number_up_to-requires-clause-digits c = c.loop-i.invariant.digits

pub number_up_to-requires-clause-value : goal.number_up_to-requires-clause-value
number_up_to-requires-clause-value c = c.loop-i.invariant.value

pub overflow_mul-value : goal.overflow_mul-value
overflow_mul-value c = omega (arith, below_power c.loop-i.i c.loop-i.value (omega (arith, c.loop-i-test.true, c.min-most.ensures)) c.loop-i.invariant.small)

pub overflow_add-value : goal.overflow_add-value
overflow_add-value c =
    let digit = digit_within c.from-digit.result (omega (arith, c.from-digit.ensures, c.type_inv.bytes c.loop-i.i)) (omega (arith, c.if-digit-gt9.false)) in
    omega (arith, digit, below_power c.loop-i.i c.loop-i.value (omega (arith, c.loop-i-test.true, c.min-most.ensures)) c.loop-i.invariant.small)

pub loop-i-preserved : goal.loop-i-preserved
loop-i-preserved c =
    let bytes = c.args.bytes.now in
    let i = c.loop-i.i in
    let code = c.from-digit.result in
    let within : i < length bytes = omega (arith, c.loop-i-test.true, c.min-most.ensures) in
    let digit = digit_within code (omega (arith, c.from-digit.ensures, c.type_inv.bytes i)) (omega (arith, c.if-digit-gt9.false)) in
    record {
      digits = digits_next bytes i code within (sym c.from-digit.ensures) digit.low digit.high c.loop-i.invariant.digits;
      value = omega (arith, value_next bytes i code within (sym c.from-digit.ensures) digit.low digit.high, c.loop-i.invariant.value, digit.value);
      small = subst (λ d. c.loop-i.value * 10 + d < 10 ^ (i + 1)) (sym digit.value) (power_more i c.loop-i.value (code - 48) c.loop-i.invariant.small (omega (arith, digit.high)));
    }

pub number_up_to-requires-then-not-has_digit_at-clause-digits :
    goal.number_up_to-requires-then-not-has_digit_at-clause-digits
number_up_to-requires-then-not-has_digit_at-clause-digits c =
    let here : c.loop-i.i ≡ c.min-most.result = omega (arith, c.loop-i-test.false, c.loop-i.auto.i-end) in
    subst (λ k. AllDigits 10 (take k c.args.bytes.now)) here c.loop-i.invariant.digits

pub number_up_to-requires-then-not-has_digit_at-clause-value :
    goal.number_up_to-requires-then-not-has_digit_at-clause-value
number_up_to-requires-then-not-has_digit_at-clause-value c =
    let here : c.loop-i.i ≡ c.min-most.result = omega (arith, c.loop-i-test.false, c.loop-i.auto.i-end) in
    c.loop-i.invariant.value ∙ ap (λ k. digits_value 10 (take k c.args.bytes.now)) here

pub twenty_digits-requires-clause-digits : goal.twenty_digits-requires-clause-digits
twenty_digits-requires-clause-digits c =
    let bytes = c.args.bytes.now in
    let digit = c.has_digit_at.ensures.0 c.if-not-has_digit_at.false in
    let inside = digit_inside bytes c.min-most.result digit in
    let here : c.loop-i.i ≡ c.min-most.result = omega (arith, c.loop-i-test.false, c.loop-i.auto.i-end) in
    twenty_in_front bytes c.min-most.result (omega (arith, inside, c.min-most.ensures)) digit (subst (λ k. AllDigits 10 (take k bytes)) here c.loop-i.invariant.digits)

pub twenty_digits-requires-clause-value : goal.twenty_digits-requires-clause-value
twenty_digits-requires-clause-value c =
    let inside = digit_inside c.args.bytes.now c.min-most.result (c.has_digit_at.ensures.0 c.if-not-has_digit_at.false) in
    let here : c.loop-i.i ≡ 19 = omega (arith, c.loop-i-test.false, c.loop-i.auto.i-end, inside, c.min-most.ensures) in
    c.loop-i.invariant.value ∙ ap (λ k. digits_value 10 (take k c.args.bytes.now)) here

pub number_up_to-requires-in-Some-clause-digits : goal.number_up_to-requires-in-Some-clause-digits
number_up_to-requires-in-Some-clause-digits c =
    let bytes = c.args.bytes.now in
    let digit = c.has_digit_at.ensures.0 c.if-not-has_digit_at.false in
    let inside = digit_inside bytes c.min-most.result digit in
    let here : c.loop-i.i ≡ c.min-most.result = omega (arith, c.loop-i-test.false, c.loop-i.auto.i-end) in
    twenty_in_front bytes c.min-most.result (omega (arith, inside, c.min-most.ensures)) digit (subst (λ k. AllDigits 10 (take k bytes)) here c.loop-i.invariant.digits)
