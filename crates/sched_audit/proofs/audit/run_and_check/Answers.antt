use Rattle.std.proofs.Common.{ℕ, List, arith, subst}
use Rattle.sched_audit.specs.Audits.{FindsByText}
use Rattle.sched_audit.proofs.Conforming.{whole_found}
use Rattle.sched_audit.proofs.audit.run_and_check.Goals as goal

pub returns-clause-finds : goal.returns-clause-finds
returns-clause-finds g c =
    subst (λ (l : List ℕ). FindsByText c.args.plan_text.now c.args.workers l c.in_ok-finding.finding) c.deref.ensures.value c.in_ok-finding.ensures.finds

pub returns-clause-conforms : goal.returns-clause-conforms
returns-clause-conforms g c =
    let ran = c.run_in_memory-answer in
    let found = c.in_ok-finding in
    whole_found ran.result.0 c.args.plan_text.now c.args.workers c.args.limit c.args.input.now ran.result.1.items found.finding c.calls_are_in_order.ensures (omega (arith, c.ranges.limit)) ran.ensures c.in_default.ensures
    (subst (λ (l : List ℕ). FindsByText c.args.plan_text.now c.args.workers l found.finding) c.deref.ensures.value found.ensures.finds)
