-- What the core's seat meets when it cancels a task that is live in its view.
use Rattle.std.proofs.Common.{◌≡◌, ◌⊎◌, ℕ, inl, inr, true, sym, ap, ◌∙◌}
use Rattle.task_word.specs.Words.{is_live}
use Rattle.task_word.specs.Answers.{after_cancel}
use Rattle.task_word.specs.declared.answers.CoreCancel.{CoreCancel}
use Rattle.task_word.specs.declared.answers.CoreCancel.TheVariants as core
use Rattle.task_word.specs.declared.views.CoreSeatView.{CoreSeatView}
use Rattle.executor_model.specs.declared.types.Need.TheVariants as n
use Rattle.worker_pool.specs.own.Moves.{IsFresh, WasMet, moves_made}

pub late_met : (tasks : ℕ) (v next : CoreSeatView) (k : ℕ) (answer : CoreCancel) → IsFresh tasks v k (λ e. is_live e.phase ≡ true) → answer ≡ core.Late → next ≡ after_cancel v k answer → WasMet tasks v next k
late_met tasks v next k answer fresh late is = record { task = fresh.0; live = fresh.1; fresh = fresh.2; now = is ∙ ap (after_cancel v k) late }

-- where it was not late the cancel won
pub won : (answer : CoreCancel) → (answer ≡ core.Won) ⊎ ((answer ≡ core.Over) ⊎ (answer ≡ core.Vacant)) → (answer ≡ core.Won) ⊎ (answer ≡ core.Late) → answer ≡ core.Won
won answer not_late live = elim live [
  | inl q ↦ q
  | inr late ↦ elim not_late [
    | inl q ↦ q
    | inr r ↦ elim r [
      | inl q ↦ let clash : core.Late ≡ core.Over = sym late ∙ q in absurd cc
      | inr q ↦ let clash : core.Late ≡ core.Vacant = sym late ∙ q in absurd cc
    ]
  ]
]

pub won_moved : (tasks : ℕ) (v next : CoreSeatView) (k : ℕ) (answer : CoreCancel) → IsFresh tasks v k (λ e. is_live e.phase ≡ true) → (answer ≡ core.Won) ⊎ ((answer ≡ core.Over) ⊎ (answer ≡ core.Vacant)) →
    (answer ≡ core.Won) ⊎ (answer ≡ core.Late) → next ≡ after_cancel v k answer → next ≡ moves_made v (n.Cancel k)
won_moved tasks v next k answer fresh not_late live is = is ∙ ap (after_cancel v k) (won answer not_late live)
