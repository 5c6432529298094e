use Rattle.std.proofs.Common.{◌≡◌, ℕ, List, arith, subst}
use Rattle.std.specs.Prelude.{IsTrue}
use Rattle.std.proofs.lemmas.Bool.{false≢true}
use Rattle.plan_compile.specs.PlanCalls.{calls_of_plan}
use Rattle.queue_code.specs.Calls.{Planned}
use Rattle.trace_check.specs.Findings.{Conforms}
use Rattle.trace_reasons.specs.Standing.{AreConforming}
use Rattle.trace_reasons.proofs.Conforming.{AreThose, one_more, none_more}
use Rattle.trace_reasons.proofs.scene.Scene.conforming.Goals as goal
use Rattle.trace_reasons.proofs.scene.Scene.conforming.Goals.{then-branch+in_ok-push, else-branch}

-- those below 65 are all
all_conform : (calls : List Planned) (text : List ℕ) (limit : ℕ) (numbers : List ℕ) → limit ≡ 65 → AreThose (λ w. Conforms calls w text) limit numbers → AreConforming calls text numbers
all_conform calls text limit numbers end those = record {
  conform = λ workers. (
    λ has. let said = those.sound workers has in ((said.0, omega (arith, end, said.1)), said.2),
    λ both. those.whole workers both.0.0 (omega (arith, end, both.0.1)) both.1,
  );
  ascending = those.ascending;
}

pub loop-workers-preserved : goal.loop-workers-preserved
loop-workers-preserved g c =
    let self = c.args.self.now in
    let P = λ (w : ℕ). Conforms (calls_of_plan self.plan.now) w self.text.now in
    let old = c.loop-workers in
    elim c.if-branch.branch [
      | then-branch+in_ok-push w ↦ rw (w.numbers-is, w.in_ok-push.ensures.items) (one_more P old.workers old.numbers.items old.auto.workers (c.in_ok-conforms_with.ensures.0 w.if-branch.true) old.invariant)
      | else-branch w ↦ rw w.numbers-is (none_more P old.workers old.numbers.items (λ holds. false≢true (subst IsTrue w.if-branch.false (c.in_ok-conforms_with.ensures.1 holds))) old.invariant)
    ]

pub returns : goal.returns
returns g c =
    let self = c.args.self.now in
    let last = c.loop-workers in
    all_conform (calls_of_plan self.plan.now) self.text.now last.workers last.numbers.items (omega (arith, last.auto.workers-end, c.loop-workers-test.false)) last.invariant
