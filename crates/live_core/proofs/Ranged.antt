-- The empty slots, once there are more slots.
use Rattle.std.proofs.Common.{◌≡◌, ℕ, ◌+◌, ◌-◌, ◌≤◌, ◌==◌, zero, suc, cond, List, [], ◌∷◌, ◌++◌, length, Option, None, refl, sym, ap, ◌∙◌, arith, subst, append_assoc}
use Rattle.std.specs.Prelude.{replicate, min, is_some}
use Rattle.std.specs.List.{range_with_len}
use Rattle.std.proofs.lemmas.Bool.{eqb-true, false_from_ne_true}
use Rattle.std.proofs.lemmas.List.{append-nil}
use Rattle.queue_code.specs.Calls.{how_many}
use Rattle.live_core.specs.Empties.{number_in, is_among, AreEmpty}
use Rattle.live_core.proofs.Emptied.{among_more, or_parts, once_more, length_more}

-- a range with one more at its end
pub range_more : (a n : ℕ) → range_with_len a (suc n) ≡ range_with_len a n ++ (a + n) ∷ []
range_more a zero = ap (λ (m : ℕ). m ∷ []) (omega arith)
range_more a (suc n) = let shifted : a + 1 + n ≡ a + suc n = omega arith in ap (λ l. a ∷ l) (range_more (a + 1) n ∙ ap (λ (m : ℕ). range_with_len (a + 1) n ++ m ∷ []) shifted)

-- one more slot, which is empty
longer_held : (held : List (Option ℕ)) → length (held ++ None ∷ []) ≡ 1 + length held
longer_held [] = refl
longer_held (o ∷ held) = let rest = longer_held held in omega (arith, rest)

longer_number : (held : List (Option ℕ)) (i : ℕ) → number_in (held ++ None ∷ []) i ≡ number_in held i
longer_number [] zero = refl
longer_number [] (suc i) = refl
longer_number (o ∷ held) zero = refl
longer_number (o ∷ held) (suc i) = longer_number held i

past_number : (held : List (Option ℕ)) (i : ℕ) → length held ≤ i → number_in held i ≡ None
past_number [] i past = refl
past_number (o ∷ held) zero past = absurd (omega (arith, past))
past_number (o ∷ held) (suc i) past = past_number held i (omega (arith, past))

longer_count : (held : List (Option ℕ)) → how_many is_some (held ++ None ∷ []) ≡ how_many is_some held
longer_count [] = refl
longer_count (o ∷ held) = ap (λ (n : ℕ). cond (is_some o) (1 + n) n) (longer_count held)

empty_more : (held : List (Option ℕ)) (free : List ℕ) → AreEmpty held free → AreEmpty (held ++ None ∷ []) (free ++ length held ∷ [])
empty_more held free empty = record {
  within = λ i q. or_parts (is_among i free) (length held == i) (sym (among_more i (length held) free) ∙ q)
      (λ old. let there = empty.within i old in omega (arith, there, longer_held held))
      (λ own. omega (arith, eqb-true (length held) i own, longer_held held));
  empty = λ i q. or_parts (is_among i free) (length held == i) (sym (among_more i (length held) free) ∙ q)
      (λ old. longer_number held i ∙ empty.empty i old)
      (λ own. longer_number held i ∙ past_number held i (omega (arith, eqb-true (length held) i own)));
  once = once_more free (length held) empty.once (false_from_ne_true (is_among (length held) free) (λ e. let there = empty.within (length held) e in absurd (omega (arith, there))));
  count = omega (arith, empty.count, length_more free (length held), longer_count held, longer_held held);
}

-- n more slots, which are empty
pub empty_grown : (n : ℕ) (held : List (Option ℕ)) (free : List ℕ) (first : ℕ) → first ≡ length held → AreEmpty held free → AreEmpty (held ++ replicate n None) (free ++ range_with_len first n)
empty_grown zero held free first is empty = subst (λ h. AreEmpty h (free ++ [])) (sym (append-nil held)) (subst (AreEmpty held) (sym (append-nil free)) empty)
empty_grown (suc n) held free first is empty =
    let more : AreEmpty (held ++ None ∷ []) (free ++ first ∷ []) = subst (λ k. AreEmpty (held ++ None ∷ []) (free ++ k ∷ [])) (sym is) (empty_more held free empty) in
    let rest = empty_grown n (held ++ None ∷ []) (free ++ first ∷ []) (first + 1) (omega (arith, is, longer_held held)) more in
    subst (λ h. AreEmpty h (free ++ range_with_len first (suc n))) (append_assoc held (None ∷ []) (replicate n None))
    (subst (AreEmpty ((held ++ None ∷ []) ++ replicate n None)) (append_assoc free (first ∷ []) (range_with_len (first + 1) n)) rest)

-- one more behind a range
pub noted_on : (old : List ℕ) (from slot : ℕ) → from ≤ slot → (old ++ range_with_len from (slot - from)) ++ slot ∷ [] ≡ old ++ range_with_len from (slot + 1 - from)
noted_on old from slot order =
    let next : suc (slot - from) ≡ slot + 1 - from = omega (arith, order) in
    let last : slot ≡ from + (slot - from) = omega (arith, order) in
    append_assoc old (range_with_len from (slot - from)) (slot ∷ [])
    ∙ (ap (λ (k : ℕ). old ++ (range_with_len from (slot - from) ++ k ∷ [])) last
    ∙ (ap (λ (l : List ℕ). old ++ l) (sym (range_more from (slot - from)))
    ∙ ap (λ (n : ℕ). old ++ range_with_len from n) next))

-- what stands in a slot then
pub grown_number : (held : List (Option ℕ)) (n i : ℕ) → number_in (held ++ replicate n None) i ≡ number_in held i
grown_number [] n i = nones n i
  where
    nones : (n i : ℕ) → number_in (replicate n None) i ≡ None
    nones zero i = refl
    nones (suc n) zero = refl
    nones (suc n) (suc i) = nones n i
grown_number (o ∷ held) n zero = refl
grown_number (o ∷ held) n (suc i) = grown_number held n i

-- there is room in the list of empty slots, where there is in both lists
pub room_within : (free index room : ℕ) → min free index ≡ room → room ≤ free
room_within free index room is = subst (λ (n : ℕ). n ≤ free) is least
  where
    least : min free index ≤ free
    least = grind arith
