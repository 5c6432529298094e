-- A word at a place of some words is near where few edits lead to it, and where it is the same but for the case of letters.
use Rattle.std.proofs.Common.{◌≡◌, ◌<◌, ◌≤◌, ℕ, List, length, get_or, inl, inr, refl, subst}
use Rattle.std.proofs.lemmas.List.{get_or_default}
use Rattle.std.specs.Borrow.{Bor}
use Rattle.near_words.specs.Near.{IsNear, IsSameBut, edits_between}

-- few edits lead to that at the place `i` of the words
pub is_near : (word : List ℕ) (words : List (Bor (List ℕ))) (i : ℕ) (d : Bor (List ℕ)) (n : ℕ) → i < length words → n ≡ edits_between word (get_or words i d).now → n ≤ 2 → IsNear word words (get_or words i d).now
is_near word words i d n within edits few = record {
  among = (i, get_or words i d, within, get_or_default words i (get_or words i d) d within, refl);
  near = inl (subst (λ (m : ℕ). m ≤ 2) edits few);
}

-- that at the place `i` of the words is the same but for the case of letters
pub is_near_but : (word : List ℕ) (words : List (Bor (List ℕ))) (i : ℕ) (d : Bor (List ℕ)) → i < length words → IsSameBut word (get_or words i d).now → IsNear word words (get_or words i d).now
is_near_but word words i d within but = record {
  among = (i, get_or words i d, within, get_or_default words i (get_or words i d) d within, refl);
  near = inr but;
}
