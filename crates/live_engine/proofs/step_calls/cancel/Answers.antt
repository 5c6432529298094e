use Rattle.std.proofs.Common.{refl, sym, subst}
use Rattle.call_text.specs.declared.call.CallLine.TheVariants as call
use Rattle.executor_model.specs.declared.types.Answer.TheVariants as a
use Rattle.live_engine.specs.declared.stops.PieceEnd.{PieceEnd}
use Rattle.live_engine.specs.declared.live_line.LiveLine.TheVariants as l
use Rattle.live_engine.specs.own.LiveSteps.{Refuses}
use Rattle.live_engine.proofs.Replied.{call_quiet, refuses_cancel}
use Rattle.live_engine.proofs.step_calls.cancel.Goals as goal

pub returns-in-Ok-clause-takes : goal.returns-in-Ok-clause-takes
returns-in-Ok-clause-takes g c =
    let old = c.args.executor.now in
    let made = c.in-Ok.ensures.made in
    call_quiet old c.cancel_number_by_call.new.self (call.Cancel c.args.task) _ (a.Cancel c.args.task c.in-Ok.effect) old.count made.makes c.in-Ok.ensures.stays refl made.near made.given

pub returns-in-Err-clause-refuses : goal.returns-in-Err-clause-refuses
returns-in-Err-clause-refuses g c =
    let error = c.in-Err.error in
    subst (λ (end : PieceEnd). Refuses end c.args.executor.now (l.Call (call.Cancel c.args.task))) (sym c.stop_of.ensures) (refuses_cancel c.args.executor.now c.args.task error c.requires.given c.in-Err.ensures.failed)
