-- The index of slots by number, once a task comes into a slot, and once a slot is emptied.
use Rattle.std.proofs.Common.{◌≡◌, ℕ, ◌+◌, ◌<◌, zero, suc, inl, inr, ◌⊎◌, List, [], ◌∷◌, ◌++◌, length, Option, Some, None, refl, sym, ap, ◌∙◌, arith}
use Rattle.std.specs.Prelude.{slice_get}
use Rattle.std.proofs.Math.ListN.{set}
use Rattle.std.proofs.lemmas.Option.{none-some, same_Some, slice_get_within}
use Rattle.task_table.specs.declared.seat.TaskRef.{TaskRef}
use Rattle.task_table.proofs.Written.{by_eqb}
use Rattle.live_core.specs.Empties.{number_in}
use Rattle.live_core.specs.own.Slots.{HasNone, IsIndex}
use Rattle.live_core.proofs.Emptied.{number_here, number_stays, number_within}

-- ---- one entry more

get_front : (entries : List TaskRef) (y x : TaskRef) (i : ℕ) → slice_get entries i ≡ Some x → slice_get (entries ++ y ∷ []) i ≡ Some x
get_front [] y x i is = absurd (none-some x is)
get_front (z ∷ entries) y x zero is = is
get_front (z ∷ entries) y x (suc i) is = get_front entries y x i is

get_last : (entries : List TaskRef) (y : TaskRef) → slice_get (entries ++ y ∷ []) (length entries) ≡ Some y
get_last [] y = refl
get_last (z ∷ entries) y = get_last entries y

-- what stands there then stood there before, or is that one
get_more : (entries : List TaskRef) (y x : TaskRef) (i : ℕ) → slice_get (entries ++ y ∷ []) i ≡ Some x → (slice_get entries i ≡ Some x) ⊎ ((i ≡ length entries) × (y ≡ x))
get_more [] y x zero is = inr (refl, same_Some y x is)
get_more [] y x (suc i) is = absurd (none-some x is)
get_more (z ∷ entries) y x zero is = inl is
get_more (z ∷ entries) y x (suc i) is = elim (get_more entries y x i is) [
  | inl there ↦ inl there
  | inr last ↦ inr (omega (arith, last.0), last.1)
]

-- ---- a task comes into an empty slot, with the number that comes next

pub indexed_new : (held : List (Option ℕ)) (entries : List TaskRef) (slot count : ℕ) → slot < length held → IsIndex held entries count →
    IsIndex (set held slot (Some count)) (entries ++ (record { number = count; slot = slot }) ∷ []) (count + 1)
indexed_new held entries slot count low index = record {
  ascending = λ i j x z l p q. rises i j x z l (get_more entries own x i p) (get_more entries own z j q);
  below = λ i x p. under i x (get_more entries own x i p);
  each = λ s number is. by_eqb slot s
      (λ here. (length entries, last s number here is))
      (λ other. let old = index.each s number (sym (number_stays held slot s (Some count) low other) ∙ is) in (old.0, get_front entries own (record { number = number; slot = s }) old.0 old.1));
}
  where
    own : TaskRef
    own = record { number = count; slot = slot }

    last : (s number : ℕ) → slot ≡ s → number_in (set held slot (Some count)) s ≡ Some number → slice_get (entries ++ own ∷ []) (length entries) ≡ Some (record { number = number; slot = s })
    last s number here is =
        let same : count ≡ number = same_Some count number (sym (number_here held slot (Some count) low) ∙ (ap (number_in (set held slot (Some count))) here ∙ is)) in
        get_last entries own ∙ (λ i. Some (record { number = same i; slot = here i }))

    under : (i : ℕ) (x : TaskRef) → (slice_get entries i ≡ Some x) ⊎ ((i ≡ length entries) × (own ≡ x)) → x.number < count + 1
    under i x (inl there) = let before = index.below i x there in omega (arith, before)
    under i x (inr last) = let number : count ≡ x.number = ap (λ (y : TaskRef). y.number) last.1 in omega (arith, number)

    rises : (i j : ℕ) (x z : TaskRef) → i < j → (slice_get entries i ≡ Some x) ⊎ ((i ≡ length entries) × (own ≡ x)) → (slice_get entries j ≡ Some z) ⊎ ((j ≡ length entries) × (own ≡ z)) → x.number < z.number
    rises i j x z l (inl p) (inl q) = index.ascending i j x z l p q
    rises i j x z l (inl p) (inr q) = let before = index.below i x p in let number : count ≡ z.number = ap (λ (y : TaskRef). y.number) q.1 in omega (arith, before, number)
    rises i j x z l (inr p) (inl q) = let within = slice_get_within entries j z q in absurd (omega (arith, l, p.0, within))
    rises i j x z l (inr p) (inr q) = absurd (omega (arith, l, p.0, q.0))

-- ---- a slot is emptied

pub indexed_emptied : (held : List (Option ℕ)) (entries : List TaskRef) (slot number count : ℕ) → number_in held slot ≡ Some number → IsIndex held entries count → IsIndex (set held slot None) entries count
indexed_emptied held entries slot number count is index = record {
  ascending = index.ascending;
  below = index.below;
  each = λ s k there. by_eqb slot s
      (λ here. absurd (none-some k (sym (number_here held slot None low) ∙ (ap (number_in (set held slot None)) here ∙ there))))
      (λ other. index.each s k (sym (number_stays held slot s None low other) ∙ there));
}
  where
    low : slot < length held
    low = number_within held slot number is

-- ---- what the index tells

-- two entries of one number are one
pub one_entry : (held : List (Option ℕ)) (entries : List TaskRef) (count i j : ℕ) (x z : TaskRef) → IsIndex held entries count → slice_get entries i ≡ Some x → slice_get entries j ≡ Some z → x.number ≡ z.number → x ≡ z
one_entry held entries count i j x z index p q same = by (order i j)
  where
    order : (i j : ℕ) → (i < j) ⊎ ((j < i) ⊎ (i ≡ j))
    order i j = grind arith

    by : (i < j) ⊎ ((j < i) ⊎ (i ≡ j)) → x ≡ z
    by (inl l) = let less = index.ascending i j x z l p q in absurd (omega (arith, less, same))
    by (inr (inl l)) = let less = index.ascending j i z x l q p in absurd (omega (arith, less, same))
    by (inr (inr e)) = same_Some x z (sym p ∙ (ap (slice_get entries) e ∙ q))

-- a number without an entry has no slot
pub without_entry : (held : List (Option ℕ)) (entries : List TaskRef) (count number : ℕ) → IsIndex held entries count → HasNone entries number →
    (slot : ℕ) → number_in held slot ≡ Some number → ⊥
without_entry held entries count number index none slot is = let entry = index.each slot number is in none entry.0 (record { number = number; slot = slot }) entry.1 refl

-- a number whose entry is stale has none either
pub stale_entry : (held : List (Option ℕ)) (entries : List TaskRef) (count i : ℕ) (x : TaskRef) → IsIndex held entries count → slice_get entries i ≡ Some x → (number_in held x.slot ≡ Some x.number → ⊥) →
    (slot : ℕ) → number_in held slot ≡ Some x.number → ⊥
stale_entry held entries count i x index there stale slot is =
    let entry = index.each slot x.number is in
    let one : x ≡ record { number = x.number; slot = slot } = one_entry held entries count i entry.0 x (record { number = x.number; slot = slot }) index there entry.1 refl in
    stale (ap (λ (y : TaskRef). number_in held y.slot) one ∙ is)

-- a number that a slot has was given out
pub number_given : (held : List (Option ℕ)) (entries : List TaskRef) (count slot number : ℕ) → IsIndex held entries count → number_in held slot ≡ Some number → number < count
number_given held entries count slot number index is = let entry = index.each slot number is in index.below entry.0 (record { number = number; slot = slot }) entry.1

-- no two slots have one number
pub one_slot : (held : List (Option ℕ)) (entries : List TaskRef) (count i j number : ℕ) → IsIndex held entries count → number_in held i ≡ Some number → number_in held j ≡ Some number → i ≡ j
one_slot held entries count i j number index p q =
    let at_i = index.each i number p in
    let at_j = index.each j number q in
    ap (λ (y : TaskRef). y.slot) (one_entry held entries count at_i.0 at_j.0 (record { number = number; slot = i }) (record { number = number; slot = j }) index at_i.1 at_j.1 refl)
