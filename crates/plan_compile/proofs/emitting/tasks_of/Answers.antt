use Rattle.std.proofs.Common.{◌≡◌, subst, arith}
use Rattle.plan_read.specs.Plans.{tasks_after_calls}
use Rattle.plan_read.specs.declared.plans.Call.{Call}
use Rattle.std.proofs.Common.{List}
use Rattle.plan_compile.proofs.Counting.{tasks_after-le}
use Rattle.plan_compile.proofs.Emission.{next_call}
use Rattle.plan_compile.proofs.emitting.tasks_of.Goals as goal

pub loop-call-preserved : goal.loop-call-preserved
loop-call-preserved c =
    let cs = c.args.calls.now in
    let call = c.call-item.result in
    let next = next_call cs c.loop-call.call-index call c.loop-call-test.true c.call-item.is in
    record {
      few = rw c.tasks_after-task.ensures (omega (arith, tasks_after-le c.loop-call.task call.op, c.loop-call.invariant.few));
      counted = rw c.tasks_after-task.ensures (subst (λ (rest : List Call). tasks_after_calls c.loop-call.task rest ≡ tasks_after_calls 0 cs) next c.loop-call.invariant.counted);
    }
