use Rattle.std.proofs.Common.{sym, subst}
use Rattle.std.specs.Prelude.{replicate}
use Rattle.executor_model.specs.declared.types.Happening.TheVariants as h
use Rattle.executor_model.specs.Within.{IsAnsweredByTable}
use Rattle.executor_model.proofs.Within.{answered_from}
use Rattle.executor_plain.proofs.Plains.{one_call}
use Rattle.executor_plain.proofs.tracing.make_calls.Goals as goal

pub happen-requires-clause-answered : goal.happen-requires-clause-answered
happen-requires-clause-answered g c =
    subst (IsAnsweredByTable c.args.calls.now c.args.workers) (sym c.loop-made.invariant)
    (answered_from c.args.calls.now c.args.workers c.args.past.now.items (replicate c.loop-made._made h.Call) c.requires.answered)

pub loop-made-preserved : goal.loop-made-preserved
loop-made-preserved g c =
    one_call c.args.calls.now c.args.workers c.loop-made._made c.args.past.now.items c.loop-made.past.items c.happen.new.past.items c.loop-made.invariant c.in_ok-happen.ensures
