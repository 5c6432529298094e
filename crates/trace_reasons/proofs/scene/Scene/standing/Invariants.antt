use Rattle.std.proofs.Common.{◌≤◌, ◌≢◌, All, AllPairs, length}
use Rattle.plan_compile.specs.PlanCalls.{calls_of_plan}
use Rattle.trace_reasons.specs.Standing.{CouldStand}
use Rattle.trace_reasons.proofs.scene.Scene.standing.Given as goal

abbrev pub invariant-loop-line : goal.invariant-loop-line
invariant-loop-line g l = record {
  stand : All (CouldStand (calls_of_plan l.self.plan.now) l.self.workers l.self.text.now l.self.line) l.those.items;
  few : length l.those.items ≤ 3;
  differ : AllPairs (λ line other. line ≢ other) l.those.items;
}
