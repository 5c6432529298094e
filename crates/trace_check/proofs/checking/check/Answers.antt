use Rattle.std.proofs.Common.{drop}
use Rattle.std.specs.Prelude.{IfOk}
use Rattle.executor_core.specs.CoreView.{workers_of}
use Rattle.plan_compile.specs.PlanCalls.{calls_of_plan}
use Rattle.trace_check.specs.Findings.{Finds}
use Rattle.trace_check.specs.own.Standing.{most_events}
use Rattle.trace_check.proofs.Texts.{moved}
use Rattle.trace_check.proofs.Taking.{opens}
use Rattle.trace_check.proofs.checking.check.Goals as goal

pub run-requires-clause-stands : goal.run-requires-clause-stands
run-requires-clause-stands g c =
    let made = c.in_ok-checker.checker in
    opens made.core (calls_of_plan c.args.plan.now) c.args.workers most_events (drop made.met made.out.items) made.busy.flags c.in_ok-checker.ensures.core c.in_ok-checker.ensures.owed c.in_ok-checker.ensures.busy

pub returns-clause-finds : goal.returns-clause-finds
returns-clause-finds g c =
    let made = c.in_ok-checker.checker in
    moved (λ calls workers. IfOk c.run.result (λ f. Finds calls workers c.args.text.now f)) made.core.calls (calls_of_plan c.args.plan.now) (workers_of made.core) c.args.workers c.in_ok-checker.ensures.core.calls c.in_ok-checker.ensures.core.count c.run.ensures.finds
