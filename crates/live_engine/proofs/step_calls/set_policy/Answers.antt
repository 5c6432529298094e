use Rattle.std.proofs.Common.{sym, subst}
use Rattle.call_text.specs.declared.call.CallLine.TheVariants as call
use Rattle.executor_model.specs.declared.types.Answer.TheVariants as a
use Rattle.live_engine.specs.declared.stops.PieceEnd.{PieceEnd}
use Rattle.live_engine.specs.declared.live_line.LiveLine.TheVariants as l
use Rattle.live_engine.specs.own.LiveSteps.{Refuses}
use Rattle.live_engine.proofs.Replied.{call_ending, refuses_late}
use Rattle.live_engine.proofs.step_calls.set_policy.Goals as goal

pub returns-in-Ok-clause-takes : goal.returns-in-Ok-clause-takes
returns-in-Ok-clause-takes g c =
    let old = c.args.executor.now in
    call_ending old c.set_policy.new.self (call.Policy c.args.which c.args.value) (a.Policy c.args.which c.args.value) old.count c.in-Ok.ensures.made c.in-Ok.ensures.stays c.in-Ok.ensures.near tt

pub returns-in-Err-clause-refuses : goal.returns-in-Err-clause-refuses
returns-in-Err-clause-refuses g c =
    let error = c.in-Err.error in
    subst (λ (end : PieceEnd). Refuses end c.args.executor.now (l.Call (call.Policy c.args.which c.args.value))) (sym c.stop_of.ensures) (refuses_late c.args.executor.now (call.Policy c.args.which c.args.value) error c.in-Err.ensures.failed)
