use Rattle.std.proofs.Common.{◌++◌, ◌∷◌, [], ap, ◌∙◌, arith}
use Rattle.executor_model.specs.declared.Event.TheVariants.{Clock}
use Rattle.sched_engine.proofs.Inputs.{fewer_left, left_more}
use Rattle.pool_engine.proofs.Taking.{takes_more}
use Rattle.pool_engine.proofs.clocks.take_clocks.Goals as goal

pub loop-split-preserved : goal.loop-split-preserved
loop-split-preserved g c =
    let held = c.args.held.now in
    let rest = c.loop-split.rest.now in
    let next = c.in-Ok.split.1.now in
    let t = c.in-Ok.split.0 in
    let kept = c.loop-split.invariant in
    let read = c.in-Ok.ensures in
    record {
      taken = takes_more held rest next _ _ _ t kept.taken kept.behind kept.bound read (c.push_reserved.ensures.items ∙ ap (λ l. l ++ t ∷ []) c.reserve.ensures.items);
      behind = left_more (Clock t) held rest next kept.behind kept.bound read.1;
      bound = omega (arith, fewer_left (Clock t) rest next read.1, kept.bound);
      few = omega (arith, c.push_reserved.ensures.len, c.reserve.ensures.len, c.if-len-limit.false, c.len.ensures);
    }
