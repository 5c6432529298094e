use Rattle.std.proofs.Common.{ℕ, Bool, true, false, List, [], ◌∷◌, ◌++◌, append-nil, sym, ap, ◌∙◌}
use Rattle.executor_model.specs.Answers.{is_swept}
use Rattle.executor_model.specs.Histories.{view_of_history}
use Rattle.executor_plain.proofs.Plains.{filter_next}
use Rattle.executor_plain.proofs.ends.swept.Goals.{then-is_swept+in_ok-push, else-is_swept}
use Rattle.executor_plain.proofs.ends.swept.Goals as goal

pub loop-k-preserved : goal.loop-k-preserved
loop-k-preserved g c =
    let test : ℕ → Bool = is_swept c.args.calls.now (record (view_of_history c.args.calls.now c.args.past.now) { moment = c.args.now; stopped = c.args.stopped }) c.args.policies in
    let k = c.loop-k.k in
    let already : List ℕ = c.loop-k.ends.items in
    elim c.if-is_swept.branch [
      | then-is_swept+in_ok-push w ↦ (λ i. (w.ends-is i).items)
          ∙ (w.in_ok-push.ensures.items ∙ (ap (λ (ks : List ℕ). ks ++ k ∷ []) c.loop-k.invariant ∙ filter_next test k true (sym w.if-is_swept.true ∙ c.is_swept.ensures)))
      | else-is_swept w ↦ (λ i. (w.ends-is i).items)
          ∙ (sym (append-nil already) ∙ (ap (λ (ks : List ℕ). ks ++ []) c.loop-k.invariant ∙ filter_next test k false (sym w.if-is_swept.false ∙ c.is_swept.ensures)))
    ]
