use Rattle.std.proofs.Common.{◌<◌, ◌≤◌, List, [], ◌∷◌, ◌++◌, length, arith}
use Rattle.executor_model.specs.declared.types.Line.{Line}
use Rattle.std.proofs.lemmas.List.{length_push}
use Rattle.std.proofs.lemmas.List.Elements.{All-push}
use Rattle.plan_compile.specs.PlanCalls.{calls_of_plan}
use Rattle.trace_reasons.specs.Standing.{CouldStand}
use Rattle.trace_reasons.proofs.Differing.{differ_push}
use Rattle.trace_reasons.proofs.scene.Scene.standing.Goals as goal
use Rattle.trace_reasons.proofs.scene.Scene.standing.Goals.{then-len-lt-MOST_LINES+then-not-is_among+in_ok-could_stand+then-branch+in_ok-push, else-len-lt-MOST_LINES}

-- one more than fewer than three
one_more : (lines : List Line) (line : Line) → length lines < 3 → length (lines ++ line ∷ []) ≤ 3
one_more lines line few = omega (arith, few, length_push lines line)

pub loop-line-preserved : goal.loop-line-preserved
loop-line-preserved g c =
    let self = c.args.self.now in
    let old = c.loop-line in
    elim c.if-len-lt-MOST_LINES.branch [
      | then-len-lt-MOST_LINES+then-not-is_among+in_ok-could_stand+then-branch+in_ok-push w ↦ rw (w.those-is, w.in_ok-push.ensures.items) (record {
        stand = All-push (CouldStand (calls_of_plan self.plan.now) self.workers self.text.now self.line) old.those.items _ old.invariant.stand (w.in_ok-could_stand.ensures w.if-branch.true);
        few = one_more old.those.items _ (omega (arith, w.if-len-lt-MOST_LINES.true, c.len.ensures));
        differ = differ_push old.those.items _ _ old.invariant.differ w.deref.ensures.value (w.is_among.ensures w.if-not-is_among.true);
      })
      | else-len-lt-MOST_LINES w ↦ rw w.those-is old.invariant
    ]
