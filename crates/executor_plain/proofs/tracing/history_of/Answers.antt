use Rattle.executor_model.specs.declared.types.Event.TheVariants as v
use Rattle.std.proofs.Common.{[], take, sym, subst}
use Rattle.std.specs.Prelude.{reverse}
use Rattle.executor_model.specs.Flows.{flow}
use Rattle.executor_model.specs.Within.{IsAnsweredByTable}
use Rattle.executor_model.proofs.Within.{answered_from}
use Rattle.executor_plain.proofs.Plains.{one_event}
use Rattle.executor_plain.proofs.tracing.history_of.Goals as goal

pub take_event-requires-clause-answered : goal.take_event-requires-clause-answered
take_event-requires-clause-answered g c =
    subst (IsAnsweredByTable c.args.calls.now c.args.workers) (sym c.loop-event.invariant)
    (answered_from c.args.calls.now c.args.workers [] (flow c.args.calls.now (reverse (take c.loop-event.event-index c.args.events.now))) tt)

pub loop-event-preserved : goal.loop-event-preserved
loop-event-preserved g c =
    one_event c.args.calls.now c.args.workers c.loop-event.event-index c.args.events.now (v.Clock 0) c.loop-event.past.items c.take_event.new.past.items
    c.loop-event-test.true c.loop-event.invariant c.in_ok-take_event.ensures
