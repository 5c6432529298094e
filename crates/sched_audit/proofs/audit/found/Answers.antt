use Rattle.std.proofs.Common.{subst}
use Rattle.plan_read.specs.Plans.{PlanTree}
use Rattle.plan_compile.specs.PlanCalls.{calls_of_plan}
use Rattle.trace_check.specs.Findings.{Finds}
use Rattle.sched_audit.proofs.audit.found.Goals as goal

pub returns-in-Ok-check-clause-finds : goal.returns-in-Ok-check-clause-finds
returns-in-Ok-check-clause-finds g c = λ plan reads.
    subst (λ (p : PlanTree). Finds (calls_of_plan p) c.args.workers c.args.trace.now c.in-Ok-check.finding) (c.in-Ok.ensures.only plan reads) c.in-Ok-check.ensures.finds
