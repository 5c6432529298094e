use Rattle.std.proofs.Common.{sym, subst}
use Rattle.executor_model.specs.declared.Event.{Event}
use Rattle.live_core.specs.Said.{ending}
use Rattle.live_engine.specs.declared.live_line.LiveLine.TheVariants as l
use Rattle.live_engine.specs.own.LiveSteps.{TakesLine}
use Rattle.live_engine.proofs.step_events.step_event.Goals as goal

pub returns-in-Clock-clause-takes : goal.returns-in-Clock-clause-takes
returns-in-Clock-clause-takes g c =
    let new = c.clock.new.executor in
    subst (λ (event : Event). TakesLine c.args.executor.now new (l.Event event) (ending c.clock.result new.ended)) (sym c.in-Clock.is) c.clock.ensures.takes

pub returns-in-Cancel-clause-takes : goal.returns-in-Cancel-clause-takes
returns-in-Cancel-clause-takes g c =
    let new = c.cancel.new.executor in
    subst (λ (event : Event). TakesLine c.args.executor.now new (l.Event event) (ending c.cancel.result new.ended)) (sym c.in-Cancel.is) c.cancel.ensures.takes
