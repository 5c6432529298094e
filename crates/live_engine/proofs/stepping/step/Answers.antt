use Rattle.std.proofs.Common.{IfOk, sym, subst}
use Rattle.live_core.specs.Said.{ending}
use Rattle.live_engine.specs.declared.live_line.LiveLine.{LiveLine}
use Rattle.live_engine.specs.own.LiveSteps.{TakesLine}
use Rattle.live_engine.proofs.stepping.step.Goals as goal

pub returns-in-Call-clause-takes : goal.returns-in-Call-clause-takes
returns-in-Call-clause-takes g c =
    subst (λ (line : LiveLine). IfOk c.step_call.result (λ answer. TakesLine c.args.executor.now c.step_call.new.executor line (ending answer c.step_call.new.executor.ended))) (sym c.in-Call.is) c.step_call.ensures.takes

pub returns-in-Event-clause-takes : goal.returns-in-Event-clause-takes
returns-in-Event-clause-takes g c =
    subst (λ (line : LiveLine). IfOk c.step_event.result (λ answer. TakesLine c.args.executor.now c.step_event.new.executor line (ending answer c.step_event.new.executor.ended))) (sym c.in-Event.is) c.step_event.ensures.takes
