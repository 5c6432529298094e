-- Clashes: words that differ at a byte that both have stand at the front of no text together.
use Rattle.std.proofs.Common.{◌≡◌, ℕ, ◌==◌, Bool, true, false, not, ◌||◌, List, [], ◌∷◌, ◌++◌, inl, inr}
use Rattle.std.proofs.lemmas.Bool.{or_cases, false≢true, eq-eqb, not_from_true, both_ways}

-- two words differ at a byte that both have
abbrev pub clash : List ℕ → List ℕ → Bool
clash [] ys = false
clash (c ∷ xs) [] = false
clash (c ∷ xs) (d ∷ ys) = not (c == d) || clash xs ys

-- then no text begins with both
pub clashes : (xs ys s t : List ℕ) → clash xs ys ≡ true → xs ++ s ≡ ys ++ t → ⊥
clashes [] ys s t p h = false≢true p
clashes (c ∷ xs) [] s t p h = false≢true p
clashes (c ∷ xs) (d ∷ ys) s t p h =
    let here : c ≡ d = cc in
    let rest : xs ++ s ≡ ys ++ t = cc in
    elim (or_cases (not (c == d)) (clash xs ys) p) [
      | inl differs ↦ both_ways (not (c == d)) (not_from_true (c == d) (eq-eqb c d here)) differs
      | inr later ↦ clashes xs ys s t later rest
    ]
