use Rattle.std.proofs.Common.{◌≡◌, ◌+◌, ◌-◌, ◌*◌, ◌^◌, ◌<◌, ◌∙◌, take, ap, sym, subst, arith}
use Rattle.std.specs.Str.Parse.{AllDigits, digits_value}
use Rattle.trace_text.proofs.Numbers.{value_next, digits_next}
use Rattle.trace_text.proofs.OnePass.{below_power, power_more, digit_within}
use Rattle.trace_text.proofs.scan.split_number.Goals as goal

pub overflow_mul-value : goal.overflow_mul-value
overflow_mul-value c = omega (arith, below_power c.loop-i.i c.loop-i.value (omega (arith, c.if-i-ge19.false)) c.loop-i.invariant.small)

pub overflow_add-value : goal.overflow_add-value
overflow_add-value c =
    let digit = digit_within c.from-digit.result (omega (arith, c.from-digit.ensures, c.type_inv.bytes c.loop-i.i)) (omega (arith, c.if-digit-gt9.false)) in
    omega (arith, digit.value, digit.high, below_power c.loop-i.i c.loop-i.value (omega (arith, c.if-i-ge19.false)) c.loop-i.invariant.small)

pub twenty_digits-requires-clause-digits : goal.twenty_digits-requires-clause-digits
twenty_digits-requires-clause-digits c =
    let bytes = c.args.bytes.now in
    let i = c.loop-i.i in
    let code = c.from-digit.result in
    let here : i ≡ 19 = omega (arith, c.loop-i.invariant.few, c.if-i-ge19.true) in
    let digit = digit_within code (omega (arith, c.from-digit.ensures, c.type_inv.bytes i)) (omega (arith, c.if-digit-gt9.false)) in
    subst (λ k. AllDigits 10 (take (k + 1) bytes)) here (digits_next bytes i code (omega arith) (sym c.from-digit.ensures) digit.low digit.high c.loop-i.invariant.digits)

pub number_up_to-requires-in-Some-clause-digits : goal.number_up_to-requires-in-Some-clause-digits
number_up_to-requires-in-Some-clause-digits c =
    let bytes = c.args.bytes.now in
    let i = c.loop-i.i in
    let code = c.from-digit.result in
    let here : i ≡ 19 = omega (arith, c.loop-i.invariant.few, c.if-i-ge19.true) in
    let digit = digit_within code (omega (arith, c.from-digit.ensures, c.type_inv.bytes i)) (omega (arith, c.if-digit-gt9.false)) in
    subst (λ k. AllDigits 10 (take (k + 1) bytes)) here (digits_next bytes i code (omega arith) (sym c.from-digit.ensures) digit.low digit.high c.loop-i.invariant.digits)

pub twenty_digits-requires-clause-value : goal.twenty_digits-requires-clause-value
twenty_digits-requires-clause-value c =
    let here : c.loop-i.i ≡ 19 = omega (arith, c.loop-i.invariant.few, c.if-i-ge19.true) in
    c.loop-i.invariant.value ∙ ap (λ k. digits_value 10 (take k c.args.bytes.now)) here

pub loop-i-preserved : goal.loop-i-preserved
loop-i-preserved c =
    let bytes = c.args.bytes.now in
    let i = c.loop-i.i in
    let code = c.from-digit.result in
    let digit = digit_within code (omega (arith, c.from-digit.ensures, c.type_inv.bytes i)) (omega (arith, c.if-digit-gt9.false)) in
    record {
      few = omega (arith, c.if-i-ge19.false);
      digits = digits_next bytes i code (omega arith) (sym c.from-digit.ensures) digit.low digit.high c.loop-i.invariant.digits;
      value = omega (arith, value_next bytes i code (omega arith) (sym c.from-digit.ensures) digit.low digit.high, c.loop-i.invariant.value, digit.value);
      small = subst (λ d. c.loop-i.value * 10 + d < 10 ^ (i + 1)) (sym digit.value) (power_more i c.loop-i.value (code - 48) c.loop-i.invariant.small (omega (arith, digit.high)));
    }
