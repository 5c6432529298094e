use Rattle.plan_compile.specs.PlanCalls.{calls_of_plan}
use Rattle.trace_check.specs.Findings.{Conforms}
use Rattle.trace_reasons.proofs.Conforming.{AreThose}
use Rattle.trace_reasons.proofs.scene.Scene.conforming.Given as goal

abbrev pub invariant-loop-workers : goal.invariant-loop-workers
invariant-loop-workers g l = AreThose (λ w. Conforms (calls_of_plan l.self.plan.now) w l.self.text.now) l.workers l.numbers.items
