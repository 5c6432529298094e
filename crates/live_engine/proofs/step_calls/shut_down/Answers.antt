use Rattle.std.proofs.Common.{sym, subst}
use Rattle.call_text.specs.declared.call.CallLine.TheVariants as call
use Rattle.executor_model.specs.declared.types.Answer.{Answer}
use Rattle.live_core.specs.Said.{ending}
use Rattle.live_engine.specs.declared.stops.PieceEnd.{PieceEnd}
use Rattle.live_engine.specs.declared.live_line.LiveLine.TheVariants as l
use Rattle.live_engine.specs.own.LiveSteps.{Refuses}
use Rattle.live_engine.proofs.Replied.{call_ending, refuses_late}
use Rattle.live_core.specs.Lives.{Calls, moment_of_call}
use Rattle.queue_code.specs.declared.call.CodeCall.TheVariants as code
use Rattle.live_engine.proofs.step_calls.shut_down.Goals as goal

pub returns-in-Ok-clause-takes : goal.returns-in-Ok-clause-takes
returns-in-Ok-clause-takes g c =
    let old = c.args.executor.now in
    let new = c.shut_down.new.self in
    call_ending old new call.Shutdown c.shutdown_answer.result old.count
    (subst (λ (answer : Answer). Calls old new (moment_of_call old 0, code.Shutdown) (ending answer new.ended)) (sym c.shutdown_answer.ensures) c.in-Ok.ensures.made.makes) c.in-Ok.ensures.stays c.in-Ok.ensures.near tt

pub returns-in-Err-clause-refuses : goal.returns-in-Err-clause-refuses
returns-in-Err-clause-refuses g c =
    let error = c.in-Err.error in
    subst (λ (end : PieceEnd). Refuses end c.args.executor.now (l.Call (call.Shutdown))) (sym c.stop_of.ensures) (refuses_late c.args.executor.now call.Shutdown error c.in-Err.ensures.failed)
