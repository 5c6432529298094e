use Rattle.std.proofs.Common.{◌≡◌, ◌^◌, ◌+◌, ◌*◌, ap, arith}
use Rattle.trace_text.proofs.Counts.{length_is, power_le, power_next}
use Rattle.trace_text.proofs.put.count_from.Goals as goal

pub overflow_mul-least : goal.overflow_mul-least
overflow_mul-least c = omega (arith, c.requires.least, power_le c.args.fewer 16 c.requires.fewer)

pub overflow_mul-least-2 : goal.overflow_mul-least-2
overflow_mul-least-2 c = omega (arith, c.requires.least, power_le c.args.fewer 16 c.requires.fewer)

pub overflow_mul-least-3 : goal.overflow_mul-least-3
overflow_mul-least-3 c = omega (arith, c.requires.least, power_le c.args.fewer 16 c.requires.fewer)

pub returns-then-n-least : goal.returns-then-n-least
returns-then-n-least c = omega (arith, length_is c.args.fewer c.args.n c.args.least c.requires.least c.requires.low (omega arith) c.ranges.n.fits)

pub returns-then-n-least-2 : goal.returns-then-n-least-2
returns-then-n-least-2 c =
    let k = c.args.fewer in
    omega (arith, length_is (k + 1) c.args.n (c.args.least * 10) (omega (arith, c.requires.least, power_next k)) (λ p. omega arith) (omega arith) c.ranges.n.fits)

pub returns-then-n-least-3 : goal.returns-then-n-least-3
returns-then-n-least-3 c =
    let k = c.args.fewer in
    omega (arith, length_is (k + 1 + 1) c.args.n (c.args.least * 100) (omega (arith, c.requires.least, power_next k, power_next (k + 1))) (λ p. omega arith) (omega arith) c.ranges.n.fits)

pub returns : goal.returns
returns c =
    let k = c.args.fewer in
    let last : 10 ^ (k + 1 + 1 + 1 + 1) ≡ c.args.least * 10000 = omega (arith, c.requires.least, power_next k, power_next (k + 1), power_next (k + 1 + 1), power_next (k + 1 + 1 + 1)) in
    let same : k + 1 + 1 + 1 + 1 ≡ k + 4 = omega arith in
    let past : 10 ^ (k + 1 + 1 + 1 + 1) ≡ 10 ^ (k + 4) = ap (λ j. 10 ^ j) same in
    omega (arith, length_is (k + 1 + 1 + 1) c.args.n (c.args.least * 1000) (omega (arith, c.requires.least, power_next k, power_next (k + 1), power_next (k + 1 + 1))) (λ p. omega arith) (omega (arith, last, past, c.requires.high)) c.ranges.n.fits)
