use Rattle.std.proofs.Common.{IfOk, sym, subst}
use Rattle.call_text.specs.declared.call.CallLine.{CallLine}
use Rattle.live_core.specs.Said.{ending}
use Rattle.live_engine.specs.declared.live_line.LiveLine.TheVariants as l
use Rattle.live_engine.specs.own.LiveSteps.{TakesLine}
use Rattle.live_engine.proofs.step_calls.step_call.Goals as goal

pub returns-in-Schedule-clause-takes : goal.returns-in-Schedule-clause-takes
returns-in-Schedule-clause-takes g c =
    let new = c.schedule.new.executor in
    subst (λ (asked : CallLine). IfOk c.schedule.result (λ answer. TakesLine c.args.executor.now new (l.Call asked) (ending answer new.ended))) (sym c.in-Schedule.is) c.schedule.ensures.takes

pub returns-in-Execute-clause-takes : goal.returns-in-Execute-clause-takes
returns-in-Execute-clause-takes g c =
    let new = c.execute.new.executor in
    subst (λ (asked : CallLine). IfOk c.execute.result (λ answer. TakesLine c.args.executor.now new (l.Call asked) (ending answer new.ended))) (sym c.in-Execute.is) c.execute.ensures.takes

pub returns-in-Rate-clause-takes : goal.returns-in-Rate-clause-takes
returns-in-Rate-clause-takes g c =
    let new = c.at_rate.new.executor in
    subst (λ (asked : CallLine). IfOk c.at_rate.result (λ answer. TakesLine c.args.executor.now new (l.Call asked) (ending answer new.ended))) (sym c.in-Rate.is) c.at_rate.ensures.takes

pub returns-in-Fixed-clause-takes : goal.returns-in-Fixed-clause-takes
returns-in-Fixed-clause-takes g c =
    let new = c.with_delay.new.executor in
    subst (λ (asked : CallLine). IfOk c.with_delay.result (λ answer. TakesLine c.args.executor.now new (l.Call asked) (ending answer new.ended))) (sym c.in-Fixed.is) c.with_delay.ensures.takes

pub returns-in-Policy-clause-takes : goal.returns-in-Policy-clause-takes
returns-in-Policy-clause-takes g c =
    let new = c.set_policy.new.executor in
    subst (λ (asked : CallLine). IfOk c.set_policy.result (λ answer. TakesLine c.args.executor.now new (l.Call asked) (ending answer new.ended))) (sym c.in-Policy.is) c.set_policy.ensures.takes

pub returns-in-Shutdown-clause-takes : goal.returns-in-Shutdown-clause-takes
returns-in-Shutdown-clause-takes g c =
    let new = c.shut_down.new.executor in
    subst (λ (asked : CallLine). IfOk c.shut_down.result (λ answer. TakesLine c.args.executor.now new (l.Call asked) (ending answer new.ended))) (sym c.in-Shutdown.is) c.shut_down.ensures.takes

pub returns-in-ShutdownNow-clause-takes : goal.returns-in-ShutdownNow-clause-takes
returns-in-ShutdownNow-clause-takes g c =
    let new = c.shut_down_now.new.executor in
    subst (λ (asked : CallLine). IfOk c.shut_down_now.result (λ answer. TakesLine c.args.executor.now new (l.Call asked) (ending answer new.ended))) (sym c.in-ShutdownNow.is) c.shut_down_now.ensures.takes

pub returns-in-Ask-clause-takes : goal.returns-in-Ask-clause-takes
returns-in-Ask-clause-takes g c =
    let new = c.ask.new.executor in
    subst (λ (asked : CallLine). IfOk c.ask.result (λ answer. TakesLine c.args.executor.now new (l.Call asked) (ending answer new.ended))) (sym c.in-Ask.is) c.ask.ensures.takes

pub returns-in-Cancel-clause-takes : goal.returns-in-Cancel-clause-takes
returns-in-Cancel-clause-takes g c =
    let new = c.cancel.new.executor in
    subst (λ (asked : CallLine). IfOk c.cancel.result (λ answer. TakesLine c.args.executor.now new (l.Call asked) (ending answer new.ended))) (sym c.in-Cancel.is) c.cancel.ensures.takes
