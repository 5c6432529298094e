-- Items of which no two are equal.
use Rattle.std.proofs.Common.{◌≡◌, ◌≢◌, ◌∙◌, Bool, true, false, List, [], ◌∷◌, ◌++◌, All, AllPairs, ap, subst, sym}
use Rattle.std.specs.List.{list_any}
use Rattle.std.proofs.lemmas.Bool.{true≢false}
use Rattle.std.proofs.lemmas.List.Folds.{list_any_at}
use Rattle.std.proofs.lemmas.List.Quantifiers.{all_pairs_push}

-- an item that passes a test which none of some passes differs from each of them
pub differs : {X : Type 0} (p : X → Bool) (xs : List X) (x : X) → p x ≡ true → list_any p xs ≡ false → All (λ y. y ≢ x) xs
differs p xs x passes none k d within equal = true≢false (sym (list_any_at p xs k d within (ap p equal ∙ passes)) ∙ none)

-- with one behind them that differs from each, still no two are equal
pub differ_push : {X : Type 0} (xs ys : List X) (x : X) → AllPairs (λ y z. y ≢ z) xs → ys ≡ xs → All (λ y. y ≢ x) ys
    → AllPairs (λ y z. y ≢ z) (xs ++ x ∷ [])
differ_push xs ys x pairs same each = all_pairs_push (λ y z. y ≢ z) xs x pairs (subst (All (λ y. y ≢ x)) same each)
