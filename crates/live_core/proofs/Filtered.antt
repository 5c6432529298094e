-- The index of numbers without the entries that are stale.
use Rattle.std.proofs.Common.{◌≡◌, ℕ, ◌<◌, ◌==◌, zero, suc, Bool, true, false, cond, List, [], ◌∷◌, Option, Some, refl, ap, ◌∙◌, arith}
use Rattle.std.specs.Prelude.{slice_get}
use Rattle.std.specs.Option.{option_map_or}
use Rattle.std.specs.List.{filter}
use Rattle.std.proofs.lemmas.Bool.{eq-eqb}
use Rattle.std.proofs.lemmas.Option.{none-some, same_Some}
use Rattle.task_table.specs.declared.seat.TaskRef.{TaskRef}
use Rattle.live_core.specs.Empties.{number_in}
use Rattle.live_core.specs.own.Slots.{is_held, Ascends, IsIndex}

-- what passes a test stands in the list
filtered_from : (test : TaskRef → Bool) (entries : List TaskRef) (n : ℕ) (x : TaskRef) → slice_get (filter test entries) n ≡ Some x → (i : ℕ) × (slice_get entries i ≡ Some x)
filtered_from test [] n x is = absurd (none-some x is)
filtered_from test (y ∷ entries) n x is = by (λ n q. filtered_from test entries n x q) (test y) n is
  where
    by : ((n : ℕ) → slice_get (filter test entries) n ≡ Some x → (i : ℕ) × (slice_get entries i ≡ Some x)) → (b : Bool) (n : ℕ) → slice_get (cond b (y ∷ filter test entries) (filter test entries)) n ≡ Some x → (i : ℕ) × (slice_get (y ∷ entries) i ≡ Some x)
    by behind true zero is = (0, is)
    by behind true (suc n) is = let rest = behind n is in (suc rest.0, rest.1)
    by behind false n is = let rest = behind n is in (suc rest.0, rest.1)

-- what stands in the list and passes is left
filtered_to : (test : TaskRef → Bool) (entries : List TaskRef) (i : ℕ) (x : TaskRef) → slice_get entries i ≡ Some x → test x ≡ true → (n : ℕ) × (slice_get (filter test entries) n ≡ Some x)
filtered_to test [] i x is passes = absurd (none-some x is)
filtered_to test (y ∷ entries) zero x is passes = (0, ap (λ b. slice_get (cond b (y ∷ filter test entries) (filter test entries)) 0) (ap test (same_Some y x is) ∙ passes) ∙ is)
filtered_to test (y ∷ entries) (suc i) x is passes = by (test y) (filtered_to test entries i x is passes)
  where
    by : (b : Bool) → (n : ℕ) × (slice_get (filter test entries) n ≡ Some x) → (n : ℕ) × (slice_get (cond b (y ∷ filter test entries) (filter test entries)) n ≡ Some x)
    by true rest = (suc rest.0, rest.1)
    by false rest = rest

-- the rest of entries that ascend does too
pub rest_ascends : (y : TaskRef) (entries : List TaskRef) → Ascends (y ∷ entries) → Ascends entries
rest_ascends y entries rises i j x z l p q = rises (suc i) (suc j) x z (omega (arith, l)) p q

-- what is left of entries that ascend does too
pub filtered_ascends : (test : TaskRef → Bool) (entries : List TaskRef) → Ascends entries → Ascends (filter test entries)
filtered_ascends test [] rises i j x z l p q = absurd (none-some x p)
filtered_ascends test (y ∷ entries) rises i j x z l p q = by (filtered_ascends test entries (rest_ascends y entries rises)) (test y) i j l p q
  where
    by : Ascends (filter test entries) → (b : Bool) (i j : ℕ) → i < j → slice_get (cond b (y ∷ filter test entries) (filter test entries)) i ≡ Some x → slice_get (cond b (y ∷ filter test entries) (filter test entries)) j ≡ Some z → x.number < z.number
    by rest true zero zero l p q = absurd (omega (arith, l))
    by rest true zero (suc j) l p q = let there = filtered_from test entries j z q in rises 0 (suc there.0) x z (omega arith) p there.1
    by rest true (suc i) zero l p q = absurd (omega (arith, l))
    by rest true (suc i) (suc j) l p q = rest i j x z (omega (arith, l)) p q
    by rest false i j l p q = rest i j x z l p q

-- an index without its stale entries is an index of the same slots
pub indexed_filtered : (held : List (Option ℕ)) (entries : List TaskRef) (count : ℕ) → IsIndex held entries count → IsIndex held (filter (is_held held) entries) count
indexed_filtered held entries count index = record {
  ascending = filtered_ascends (is_held held) entries index.ascending;
  below = λ i x p. let there = filtered_from (is_held held) entries i x p in index.below there.0 x there.1;
  each = λ slot number is. let there = index.each slot number is in filtered_to (is_held held) entries there.0 (record { number = number; slot = slot }) there.1 (holds slot number is);
}
  where
    holds : (slot number : ℕ) → number_in held slot ≡ Some number → is_held held (record { number = number; slot = slot }) ≡ true
    holds slot number is = ap (λ (o : Option ℕ). option_map_or (λ k. k == number) o false) is ∙ eq-eqb number number refl
