-- How the core's seat moves the words that a need names.
use Rattle.std.specs.Prelude.{◌≡◌, ℕ, ◌+◌, ◌<◌, ◌^◌, true, false}
use Rattle.task_word.specs.Words.{Parts, is_live, is_cancelled, new_in, started, rearmed, ended_well, ended_badly, marked}
use Rattle.task_word.specs.declared.phases.Phase.TheVariants as w
use Rattle.task_word.specs.Views.{entry, with_entry}
use Rattle.task_word.specs.declared.views.CoreSeatView.{CoreSeatView}
use Rattle.task_word.specs.declared.answers.CoreCancel.TheVariants as core
use Rattle.task_word.specs.Answers.{after_cancel}
use Rattle.executor_model.specs.declared.types.Need.{Need}
use Rattle.executor_model.specs.declared.types.Need.TheVariants as n

-- the seat met task k cancelled
abbrev pub with_mark : CoreSeatView → ℕ → CoreSeatView
with_mark v k = with_entry v k (marked (entry v k))

-- the seat made the moves of a need; those of a sweep are made one by one
abbrev pub moves_made : CoreSeatView → Need → CoreSeatView
moves_made v n.Nothing = v
moves_made v (n.Submit k) = with_entry v k (new_in 0)
moves_made v (n.Start k) = with_entry v k (started (entry v k))
moves_made v (n.Done k) = with_entry v k (ended_well (entry v k))
moves_made v (n.Fail k) = with_entry v k (ended_badly (entry v k))
moves_made v (n.Rearm k) = with_entry v k (rearmed (entry v k))
moves_made v (n.Cancel k) = after_cancel v k core.Won
moves_made v n.Sweep = v

-- task k is one of n tasks, and in the seat's view its word passes a test and is not cancelled
abbrev pub IsFresh : ℕ → CoreSeatView → ℕ → (Parts → Type 0) → Type 0
IsFresh n v k test = (k < n) × test (entry v k) × (is_cancelled (entry v k) ≡ false)

-- the seat can make the moves of a need
abbrev pub CanMove : ℕ → CoreSeatView → Need → Type 0
CanMove tasks v n.Nothing = Unit {0}
CanMove tasks v (n.Submit k) = IsFresh tasks v k (λ e. e.phase ≡ w.Vacant)
CanMove tasks v (n.Start k) = IsFresh tasks v k (λ e. e.phase ≡ w.New)
CanMove tasks v (n.Done k) = IsFresh tasks v k (λ e. e.phase ≡ w.Running)
CanMove tasks v (n.Fail k) = IsFresh tasks v k (λ e. e.phase ≡ w.Running)
CanMove tasks v (n.Rearm k) = IsFresh tasks v k (λ e. (e.phase ≡ w.Running) × (e.run + 1 < 2 ^ 32))
CanMove tasks v (n.Cancel k) = IsFresh tasks v k (λ e. is_live e.phase ≡ true)
CanMove tasks v n.Sweep = Unit {0}

-- task k is live in the seat's view, and not cancelled; then the seat met it cancelled
pub record WasMet (n : ℕ) (old new : CoreSeatView) (k : ℕ) : Type 0 where
  pub task : k < n
  pub live : is_live (entry old k).phase ≡ true
  pub fresh : is_cancelled (entry old k) ≡ false
  pub now : new ≡ with_mark old k
