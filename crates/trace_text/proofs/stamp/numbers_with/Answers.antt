use Rattle.std.proofs.Common.{◌≤◌, ◌-◌, ◌^◌, arith}
use Rattle.trace_text.proofs.Counts.{length_is, power_le}
use Rattle.trace_text.proofs.stamp.numbers_with.Goals as goal

pub overflow_mul-result : goal.overflow_mul-result
overflow_mul-result c = omega (arith, c.pow-least.ensures, power_le (c.args.count - 1) 18 (omega (arith, c.if-count-gt19.false)))

pub returns : goal.returns
returns c = λ n low high.
    let k = c.args.count - 1 in
    let most : 10 ^ k ≤ 10 ^ 18 = power_le k 18 (omega (arith, c.if-count-gt19.false)) in
    omega (arith, c.if-count-lt2.false, length_is k n c.pow-least.result c.pow-least.ensures (λ p. low) high (omega (arith, high, c.pow-least.ensures, most)))
