-- Ranges of numbers, gone through one by one.
use Rattle.std.proofs.Common.{◌≡◌, ℕ, ◌+◌, ◌-◌, suc, ◌<◌, List, ◌∷◌, ◌++◌, refl, sym, ap, ◌∙◌, append_assoc, arith}
use Rattle.std.specs.Prelude.{flat_map}
use Rattle.std.specs.List.{range_with_len}

-- the first number of a range, and the others
first : (a b : ℕ) → a < b → range_with_len a (b - a) ≡ a ∷ range_with_len (a + 1) (b - (a + 1))
first a b low = let e : b - a ≡ suc (b - (a + 1)) = omega arith in rw e refl

-- what the first number gives was appended, and the rest is left
pub one_more : (f : ℕ → List ℕ) (old new all : List ℕ) (a b : ℕ) → a < b → new ≡ old ++ f a → old ++ flat_map f (range_with_len a (b - a)) ≡ all
    → new ++ flat_map f (range_with_len (a + 1) (b - (a + 1))) ≡ all
one_more f old new all a b low put kept =
    rw put (append_assoc old (f a) (flat_map f (range_with_len (a + 1) (b - (a + 1)))))
    ∙ (ap (λ (ns : List ℕ). old ++ flat_map f ns) (sym (first a b low)) ∙ kept)
