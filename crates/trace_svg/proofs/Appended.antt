-- Texts that were appended one behind the other.
use Rattle.std.proofs.Common.{◌≡◌, ℕ, List, ◌++◌, append_assoc}

-- seven behind a first one
pub seven : (a b c d e f g h t₀ t₁ t₂ t₃ t₄ t₅ t₆ t₇ : List ℕ) → t₀ ≡ a → t₁ ≡ t₀ ++ b → t₂ ≡ t₁ ++ c → t₃ ≡ t₂ ++ d → t₄ ≡ t₃ ++ e → t₅ ≡ t₄ ++ f → t₆ ≡ t₅ ++ g → t₇ ≡ t₆ ++ h
    → t₇ ≡ a ++ (b ++ (c ++ (d ++ (e ++ (f ++ (g ++ h))))))
seven a b c d e f g h t₀ t₁ t₂ t₃ t₄ t₅ t₆ t₇ p₀ p₁ p₂ p₃ p₄ p₅ p₆ p₇ = rw (p₇, p₆, p₅, p₄, p₃, p₂, p₁, p₀) (simp append_assoc)
