-- Where the text writes a plan, the fault of `read_plan` is want of memory, and so that of the reason is.
use Rattle.std.proofs.Common.{arith}
use Rattle.plan_reasons.proofs.finding.reason_of.Goals as goal
use Rattle.plan_reasons.proofs.finding.reason_of.Goals.{in-Ok, in-Err}

pub returns-clause-only : goal.returns-clause-only
returns-clause-only g c = λ plan writes.
    let only = c.read_plan.ensures.only plan writes in
    elim c.match-read_plan.branch [ in-Ok w ↦ grind (arith, only, w.result-is) | in-Err w ↦ grind (arith, only, w.result-is, w.reason_of_fault.ensures.fault) ]
