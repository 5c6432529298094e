-- The tasks that handles won.
use Rattle.std.proofs.Common.{◌≡◌, ℕ, ◌<◌, ◌≤◌, ◌==◌, ◌||◌, Bool, true, false, inl, inr, List, refl, sym, ap, ◌∙◌, subst, arith}
use Rattle.std.proofs.lemmas.Bool.{false≢true, eqb-true}
use Rattle.task_word.specs.Views.{and_if, new_handle}
use Rattle.task_word.specs.Answers.{HandleLooks, is_handle_win}
use Rattle.task_word.specs.declared.answers.CancelAnswer.{CancelAnswer}
use Rattle.task_word.specs.declared.answers.CancelAnswer.TheVariants as cancel
use Rattle.task_word.specs.declared.answers.TaskState.{TaskState}
use Rattle.task_word.specs.declared.views.HandleSeatView.{HandleSeatView}
use Rattle.executor_model.specs.Histories.{is_end as stands_in}
use Rattle.worker_pool.specs.own.Steps.{WinsBelow}
use Rattle.worker_pool.proofs.Sweeps.{low_or}

-- a new handle won none
pub wins_none : (n m : ℕ) (handle : HandleSeatView) → handle ≡ new_handle m → WinsBelow n handle
wins_none n m handle is = λ k q. absurd (false≢true (sym (ap (λ (h : HandleSeatView). stands_in k h.won) is) ∙ q))

pub wins_alike : (n : ℕ) (old new : HandleSeatView) → new.won ≡ old.won → WinsBelow n old → WinsBelow n new
wins_alike n old new same below = λ k q. below k (ap (stands_in k) (sym same) ∙ q)

wins_more : (n k : ℕ) (b : Bool) (won : List ℕ) → (b ≡ true → k < n) → ((j : ℕ) → stands_in j won ≡ true → j < n) → (j : ℕ) → stands_in j (and_if b k won) ≡ true → j < n
wins_more n k true won low below j q = by (k == j) refl
  where
    by : (b : Bool) → (k == j) ≡ b → j < n
    by true same = subst (λ i. i < n) (eqb-true k j same) (low refl)
    by false apart = below j (ap (λ b. b || stands_in j won) (sym apart) ∙ q)
wins_more n k false won low below j q = below j q

-- a cancel wins no task past the last one
pub cancel_wins : (n tasks k : ℕ) (answer : CancelAnswer) (old new : HandleSeatView) → tasks ≡ n → (tasks ≤ k → answer ≡ cancel.NoTask) → new.won ≡ and_if (is_handle_win answer) k old.won → WinsBelow n old → WinsBelow n new
cancel_wins n tasks k answer old new count past won below = λ j q. wins_more n k (is_handle_win answer) old.won low below j (ap (stands_in j) (sym won) ∙ q)
  where
    low : is_handle_win answer ≡ true → k < n
    low q = elim (low_or k n) [
      | inl l ↦ l
      | inr high ↦ absurd (false≢true (sym (ap is_handle_win (past (omega (arith, high, count)))) ∙ q))
    ]

-- a look wins none
pub look_wins : (n tasks k : ℕ) (answer : TaskState) (old new : HandleSeatView) → (k < tasks → HandleLooks old k answer new) → (tasks ≤ k → new ≡ old) → WinsBelow n old → WinsBelow n new
look_wins n tasks k answer old new met past below = wins_alike n old new same below
  where
    same : new.won ≡ old.won
    same = elim (low_or k tasks) [
      | inl low ↦ ap (λ (h : HandleSeatView). h.won) (met low).3
      | inr high ↦ ap (λ (h : HandleSeatView). h.won) (past high)
    ]
