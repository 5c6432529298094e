-- Lists: lines of one kind, one behind the other.
use Rattle.std.proofs.Common.{◌≡◌, ℕ, true, List, [], ◌∷◌, ◌++◌, sym, ◌∙◌, refl, append_assoc}
use Rattle.std.specs.Prelude.{flat_map}
use Rattle.std.specs.List.{AllByRecursion}
use Rattle.trace_text.specs.Reading.{IsUnread}
use Rattle.trace_text.proofs.Clashes.{clash, clashes}
use Rattle.trace_text.proofs.Parts.{IsOnce}

module _ {V : Type 0} (spell : V → List ℕ) (fits : V → Type 0) where
  -- of two lists of lines with a rest behind each that begins with none, in one text, both are one
  pub lists_once : IsOnce spell fits → (xs ys : List V) (s t : List ℕ) → AllByRecursion fits xs → AllByRecursion fits ys → IsUnread spell fits s → IsUnread spell fits t
      → flat_map spell xs ++ s ≡ flat_map spell ys ++ t → (xs ≡ ys) × (s ≡ t)
  lists_once once [] [] s t p q a b h = (refl, h)
  lists_once once [] (y ∷ ys) s t p q a b h = absurd (a y (flat_map spell ys ++ t) q.0 (h ∙ append_assoc (spell y) (flat_map spell ys) t))
  lists_once once (x ∷ xs) [] s t p q a b h = absurd (b x (flat_map spell xs ++ s) p.0 (sym h ∙ append_assoc (spell x) (flat_map spell xs) s))
  lists_once once (x ∷ xs) (y ∷ ys) s t p q a b h =
      let front = once x y (flat_map spell xs ++ s) (flat_map spell ys ++ t) p.0 q.0 (sym (append_assoc (spell x) (flat_map spell xs) s) ∙ (h ∙ append_assoc (spell y) (flat_map spell ys) t)) in
      let rest = lists_once once xs ys s t p.1 q.1 a b front.1 in
      (λ i. front.0 i ∷ rest.0 i, rest.1)

  -- a word that no line of the kind begins with does not stand in front of such lines, where it does not stand behind them
  pub no_word : (word : List ℕ) → ((value : V) → clash word (spell value) ≡ true) → (values : List V) (rest : List ℕ) → ((tail : List ℕ) → rest ≡ word ++ tail → ⊥)
      → (tail : List ℕ) → flat_map spell values ++ rest ≡ word ++ tail → ⊥
  no_word word other [] rest never tail h = never tail h
  no_word word other (x ∷ xs) rest never tail h =
      clashes word (spell x) tail (flat_map spell xs ++ rest) (other x) (sym h ∙ append_assoc (spell x) (flat_map spell xs) rest)
