use Rattle.std.proofs.Common.{◌≡◌, ◌+◌, ◌*◌, ◌/◌, ◌≤◌, ◌∷◌, ◌++◌, [], ◌∙◌, ap, arith}
use Rattle.std.specs.Int.{div_ceil}
use Rattle.trace_draw.specs.Ticks.{step_nanos}
use Rattle.trace_draw.proofs.Multiples.{none_before, one_more, all_ticks, first_near, count_within, factor_some}
use Rattle.trace_draw.proofs.axis.ticks.Goals as goal
use Rattle.trace_draw.proofs.axis.ticks.Goals.{else-loop-number-test, then-loop-number-test+in_ok-push+else-number-number-end}

pub loop-number-init : goal.loop-number-init
loop-number-init g c =
    let step = c.step_over-count.result in
    let nanos = step.0 * c.nanos.result in
    let same : nanos ≡ step_nanos step = ap (λ n. step.0 * n) c.nanos.ensures in
    record {
      near = omega (arith, c.div_ceil-number.ensures, first_near c.from-from.result c.to-to.result nanos (omega (arith, same, c.step_over-count.ensures.some)) (omega (arith, c.from-from.ensures, c.to-to.ensures.ordered)));
      ticks = c.new-ticks.ensures.items ∙ none_before c.from-from.result nanos c.div_ceil-number.result step same c.step_over-count.ensures.some c.div_ceil-number.ensures;
    }

pub overflow_mul-number-in-loop-number : goal.overflow_mul-number-in-loop-number
overflow_mul-number-in-loop-number g c =
    let step = c.step_over-count.result in
    let same : step.0 * c.nanos.result ≡ step_nanos step = ap (λ n. step.0 * n) c.nanos.ensures in
    let some : 1 ≤ c.nanos.result = factor_some step.0 c.nanos.result (omega (arith, same, c.step_over-count.ensures.some)) in
    omega (arith, count_within c.to-to.result c.loop-number.number step.0 c.nanos.result some c.loop-number-test.true)

pub loop-number-preserved : goal.loop-number-preserved
loop-number-preserved g c =
    let step = c.step_over-count.result in
    let nanos = step.0 * c.nanos.result in
    let number = c.loop-number.number in
    let same : nanos ≡ step_nanos step = ap (λ n. step.0 * n) c.nanos.ensures in
    let low : div_ceil c.from-from.result nanos ≤ number = omega (arith, c.loop-number.auto.number, c.div_ceil-number.ensures) in
    record {
      near = omega arith;
      ticks = c.in_ok-push.ensures.items
          ∙ ((λ i. c.loop-number.invariant.ticks i ++ record { moment = number * same i; count = number * step.0; unit = step.1 } ∷ [])
          ∙ one_more c.from-from.result nanos c.div_ceil-number.result number step same c.step_over-count.ensures.some low);
    }

pub returns : goal.returns
returns g c =
    let step = c.step_over-count.result in
    let nanos = step.0 * c.nanos.result in
    let number = c.loop-number.number in
    let same : nanos ≡ step_nanos step = ap (λ n. step.0 * n) c.nanos.ensures in
    elim c.loop-number-test.branch [
      | else-loop-number-test w ↦
          let end : number ≡ c.to-to.result / nanos + 1 = omega (arith, c.loop-number.invariant.near, w.loop-number-test.false) in
          rw w.ticks-is (c.loop-number.invariant.ticks
          ∙ all_ticks c.args.window c.from-from.result c.to-to.result nanos number step c.from-from.ensures c.to-to.ensures.moment c.step_over-count.ensures.step same end)
      | then-loop-number-test+in_ok-push+else-number-number-end w ↦
          let last : number ≡ c.to-to.result / nanos = omega arith in
          let low : div_ceil c.from-from.result nanos ≤ number = omega (arith, c.loop-number.auto.number, c.div_ceil-number.ensures) in
          rw w.ticks-is (w.in_ok-push.ensures.items
          ∙ ((λ i. c.loop-number.invariant.ticks i ++ record { moment = number * same i; count = number * step.0; unit = step.1 } ∷ [])
          ∙ (one_more c.from-from.result nanos c.div_ceil-number.result number step same c.step_over-count.ensures.some low
          ∙ all_ticks c.args.window c.from-from.result c.to-to.result nanos (number + 1) step c.from-from.ensures c.to-to.ensures.moment c.step_over-count.ensures.step same (ap (λ n. n + 1) last))))
    ]
