-- Messages: what most lines say, and what few do.
use Rattle.std.proofs.Common.{◌≡◌, ℕ, Bool, true, false, refl}
use Rattle.sched_time.specs.declared.Which.{Which}
use Rattle.executor_model.specs.declared.types.Kind.{Kind}
use Rattle.executor_model.specs.declared.types.Refusal.{Refusal}
use Rattle.executor_model.specs.declared.types.CancelEffect.{CancelEffect}
use Rattle.executor_model.specs.declared.types.EventError.{EventError}
use Rattle.executor_model.specs.declared.said.Said.{Said}
use Rattle.executor_model.specs.declared.said.Said.TheVariants as s
use Rattle.trace_text.specs.own.Messages.{is_common}

-- what is none of these is not common
pub uncommon : (x : Said)
    → ((a : Kind) (b : ℕ) (c : ℕ) → x ≡ s.Submit a b c → ⊥)
    → ((a : CancelEffect) (b : ℕ) → x ≡ s.Cancel a b → ⊥)
    → ((a : CancelEffect) (b : ℕ) → x ≡ s.Outside a b → ⊥)
    → (x ≡ s.Clock → ⊥)
    → ((a : ℕ) (b : ℕ) (c : ℕ) (d : ℕ) → x ≡ s.Start a b c d → ⊥)
    → ((a : ℕ) → x ≡ s.Idle a → ⊥)
    → ((a : ℕ) (b : ℕ) (c : ℕ) (d : ℕ) → x ≡ s.Done a b c d → ⊥)
    → ((a : ℕ) (b : ℕ) (c : ℕ) (d : ℕ) → x ≡ s.Again a b c d → ⊥)
    → ((a : EventError) → x ≡ s.Error a → ⊥)
    → is_common x ≡ false
uncommon (s.Submit a b c) not _ _ _ _ _ _ _ _ = absurd (not a b c refl)
uncommon (s.Cancel a b) _ not _ _ _ _ _ _ _ = absurd (not a b refl)
uncommon (s.Outside a b) _ _ not _ _ _ _ _ _ = absurd (not a b refl)
uncommon s.Clock _ _ _ not _ _ _ _ _ = absurd (not refl)
uncommon (s.Start a b c d) _ _ _ _ not _ _ _ _ = absurd (not a b c d refl)
uncommon (s.Idle a) _ _ _ _ _ not _ _ _ = absurd (not a refl)
uncommon (s.Done a b c d) _ _ _ _ _ _ not _ _ = absurd (not a b c d refl)
uncommon (s.Again a b c d) _ _ _ _ _ _ _ not _ = absurd (not a b c d refl)
uncommon (s.Error a) _ _ _ _ _ _ _ _ not = absurd (not a refl)
uncommon (s.Refuse a b) _ _ _ _ _ _ _ _ _ = refl
uncommon s.Purge _ _ _ _ _ _ _ _ _ = refl
uncommon (s.Policy a b) _ _ _ _ _ _ _ _ _ = refl
uncommon s.Shutdown _ _ _ _ _ _ _ _ _ = refl
uncommon s.ShutdownAgain _ _ _ _ _ _ _ _ _ = refl
uncommon s.ShutdownNow _ _ _ _ _ _ _ _ _ = refl
uncommon (s.Ask a b c d) _ _ _ _ _ _ _ _ _ = refl
uncommon (s.Failed a b c d) _ _ _ _ _ _ _ _ _ = refl
uncommon (s.Dropped a b c) _ _ _ _ _ _ _ _ _ = refl
uncommon (s.Ended a b c) _ _ _ _ _ _ _ _ _ = refl
uncommon (s.End a) _ _ _ _ _ _ _ _ _ = refl

-- what is none of these is common
pub common : (x : Said)
    → ((a : Refusal) (b : ℕ) → x ≡ s.Refuse a b → ⊥)
    → (x ≡ s.Purge → ⊥)
    → ((a : Which) (b : Bool) → x ≡ s.Policy a b → ⊥)
    → (x ≡ s.Shutdown → ⊥)
    → (x ≡ s.ShutdownAgain → ⊥)
    → (x ≡ s.ShutdownNow → ⊥)
    → ((a : Bool) (b : Bool) (c : ℕ) (d : ℕ) → x ≡ s.Ask a b c d → ⊥)
    → ((a : ℕ) (b : ℕ) (c : ℕ) (d : ℕ) → x ≡ s.Failed a b c d → ⊥)
    → ((a : ℕ) (b : ℕ) (c : ℕ) → x ≡ s.Dropped a b c → ⊥)
    → ((a : ℕ) (b : ℕ) (c : ℕ) → x ≡ s.Ended a b c → ⊥)
    → ((a : ℕ) → x ≡ s.End a → ⊥)
    → is_common x ≡ true
common (s.Refuse a b) not _ _ _ _ _ _ _ _ _ _ = absurd (not a b refl)
common s.Purge _ not _ _ _ _ _ _ _ _ _ = absurd (not refl)
common (s.Policy a b) _ _ not _ _ _ _ _ _ _ _ = absurd (not a b refl)
common s.Shutdown _ _ _ not _ _ _ _ _ _ _ = absurd (not refl)
common s.ShutdownAgain _ _ _ _ not _ _ _ _ _ _ = absurd (not refl)
common s.ShutdownNow _ _ _ _ _ not _ _ _ _ _ = absurd (not refl)
common (s.Ask a b c d) _ _ _ _ _ _ not _ _ _ _ = absurd (not a b c d refl)
common (s.Failed a b c d) _ _ _ _ _ _ _ not _ _ _ = absurd (not a b c d refl)
common (s.Dropped a b c) _ _ _ _ _ _ _ _ not _ _ = absurd (not a b c refl)
common (s.Ended a b c) _ _ _ _ _ _ _ _ _ not _ = absurd (not a b c refl)
common (s.End a) _ _ _ _ _ _ _ _ _ _ not = absurd (not a refl)
common (s.Submit a b c) _ _ _ _ _ _ _ _ _ _ _ = refl
common (s.Cancel a b) _ _ _ _ _ _ _ _ _ _ _ = refl
common (s.Outside a b) _ _ _ _ _ _ _ _ _ _ _ = refl
common s.Clock _ _ _ _ _ _ _ _ _ _ _ = refl
common (s.Start a b c d) _ _ _ _ _ _ _ _ _ _ _ = refl
common (s.Idle a) _ _ _ _ _ _ _ _ _ _ _ = refl
common (s.Done a b c d) _ _ _ _ _ _ _ _ _ _ _ = refl
common (s.Again a b c d) _ _ _ _ _ _ _ _ _ _ _ = refl
common (s.Error a) _ _ _ _ _ _ _ _ _ _ _ = refl
