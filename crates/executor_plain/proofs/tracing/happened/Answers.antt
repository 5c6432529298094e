use Rattle.executor_model.specs.declared.types.Happening.TheVariants as h
use Rattle.std.proofs.Common.{[], take, sym, subst}
use Rattle.std.specs.Prelude.{reverse}
use Rattle.executor_model.specs.Within.{IsAnsweredByTable}
use Rattle.executor_model.proofs.Within.{answered_from}
use Rattle.executor_plain.proofs.Plains.{one_happening}
use Rattle.executor_plain.proofs.tracing.happened.Goals as goal

pub happen-requires-clause-answered : goal.happen-requires-clause-answered
happen-requires-clause-answered g c =
    subst (IsAnsweredByTable c.args.calls.now c.args.workers) (sym c.loop-happening.invariant)
    (answered_from c.args.calls.now c.args.workers [] (reverse (take c.loop-happening.happening-index c.args.happenings.now)) tt)

pub loop-happening-preserved : goal.loop-happening-preserved
loop-happening-preserved g c =
    one_happening c.args.calls.now c.args.workers c.loop-happening.happening-index c.args.happenings.now h.Call c.loop-happening.past.items c.happen.new.past.items
    c.loop-happening-test.true c.loop-happening.invariant c.in_ok-happen.ensures
