use Rattle.std.proofs.Common.{sym, ap, subst, ◌≡◌, IfOk, Result, Ok, Err, refl}
use Rattle.call_text.specs.declared.call.CallLine.TheVariants as call
use Rattle.executor_model.specs.declared.types.Answer.{Answer}
use Rattle.executor_model.specs.declared.types.Answer.TheVariants as a
use Rattle.executor_model.specs.Answers.{bare}
use Rattle.live_core.specs.Said.{ending}
use Rattle.live_engine.specs.declared.stops.PieceEnd.{PieceEnd}
use Rattle.live_engine.specs.declared.live_line.LiveLine.TheVariants as l
use Rattle.live_engine.specs.own.LiveSteps.{Refuses, TakesLine}
use Rattle.live_engine.proofs.Steps.{takes_call}
use Rattle.live_engine.proofs.Replied.{call_quiet, memory_refuses, refuses_late}
use Rattle.live_engine.proofs.step_calls.ask.Goals as goal

pub returns-in-Ok-clause-takes : goal.returns-in-Ok-clause-takes
returns-in-Ok-clause-takes g c = by c.ask_answer.result c.ask_answer.ensures.answer
  where
    by : (r : Result Answer PieceEnd) → IfOk r (λ answer. answer ≡ a.Ask c.in-Ok.asked.queue c.in-Ok.asked.running c.in-Ok.asked.shutdown c.in-Ok.asked.terminated)
        → IfOk r (λ answer. TakesLine c.args.executor.now c.ask.new.self (l.Call call.Ask) (ending answer c.ask.new.self.ended))
    by (Ok answer) is = call_quiet c.args.executor.now c.ask.new.self call.Ask _ answer c.args.executor.now.count c.in-Ok.ensures.made.makes c.in-Ok.ensures.stays (ap bare is) c.in-Ok.ensures.near tt
    by (Err end) is = tt

pub returns-in-Ok-clause-refuses : goal.returns-in-Ok-clause-refuses
returns-in-Ok-clause-refuses g c =
    let old = c.args.executor.now in
    memory_refuses old c.ask.new.self (l.Call call.Ask) _ c.ask_answer.result tt (takes_call old c.ask.new.self call.Ask _ c.in-Ok.ensures.made.makes c.in-Ok.ensures.stays.stays.workers c.in-Ok.ensures.near tt) refl c.ask_answer.ensures.memory

pub returns-in-Err-clause-refuses : goal.returns-in-Err-clause-refuses
returns-in-Err-clause-refuses g c =
    let error = c.in-Err.error in
    subst (λ (end : PieceEnd). Refuses end c.args.executor.now (l.Call (call.Ask))) (sym c.stop_of.ensures) (refuses_late c.args.executor.now call.Ask error c.in-Err.ensures.failed)
