-- An index that is kept as two lists: its numbers, and the slots beside them.
use Rattle.std.proofs.Common.{◌≡◌, ℕ, ◌+◌, ◌<◌, ◌≤◌, ◌-◌, zero, suc, inl, inr, ◌⊎◌, Bool, true, false, List, [], ◌∷◌, ◌++◌, Some, length, get_or, take, drop, set, refl, sym, ap, subst, ◌∙◌, arith}
use Rattle.std.specs.Prelude.{slice_get}
use Rattle.std.specs.List.{filter}
use Rattle.std.proofs.lemmas.List.{length-set, length-append}
use Rattle.std.proofs.lemmas.Option.{none-some, same_Some, slice_get_within}
use Rattle.task_table.specs.declared.seat.TaskRef.{TaskRef}
use Rattle.live_core.specs.own.Slots.{Ascends, IsBelow, Rises, ArePaired, entries_of}
use Rattle.live_core.proofs.Filtered.{filtered_ascends}
use Rattle.live_core.proofs.Compacted.{Compacts, compacts_none, compacts_kept, compacts_left, compacts_full}

-- ---- what stands at a place

-- there are as many entries as numbers
pub paired_size : (numbers slots : List ℕ) → length numbers ≡ length slots → length (entries_of numbers slots) ≡ length numbers
paired_size [] slots is = refl
paired_size (n ∷ numbers) [] is = absurd (omega (arith, is))
paired_size (n ∷ numbers) (s ∷ slots) is = omega (arith, paired_size numbers slots (omega (arith, is)))

-- a number and the slot beside it are an entry
pub paired_at : (numbers slots : List ℕ) (i number slot : ℕ) → slice_get numbers i ≡ Some number → slice_get slots i ≡ Some slot → slice_get (entries_of numbers slots) i ≡ Some (record { number = number; slot = slot })
paired_at [] slots i number slot p q = absurd (none-some number p)
paired_at (n ∷ numbers) [] i number slot p q = absurd (none-some slot q)
paired_at (n ∷ numbers) (s ∷ slots) zero number slot p q =
    let a = same_Some n number p in
    let b = same_Some s slot q in
    (λ k. Some (record { number = a k; slot = b k }))
paired_at (n ∷ numbers) (s ∷ slots) (suc i) number slot p q = paired_at numbers slots i number slot p q

-- the same where the slot was read at the place of the number
pub paired_beside : (numbers slots : List ℕ) (i number slot : ℕ) → length numbers ≡ length slots → slice_get numbers i ≡ Some number → slot ≡ get_or slots i slot → slice_get (entries_of numbers slots) i ≡ Some (record { number = number; slot = slot })
paired_beside [] slots i number slot is p q = absurd (none-some number p)
paired_beside (n ∷ numbers) [] i number slot is p q = absurd (omega (arith, is))
paired_beside (n ∷ numbers) (s ∷ slots) zero number slot is p q = paired_at (n ∷ numbers) (s ∷ slots) 0 number slot p (ap (λ (k : ℕ). Some k) (sym q))
paired_beside (n ∷ numbers) (s ∷ slots) (suc i) number slot is p q = paired_beside numbers slots i number slot (omega (arith, is)) p q

-- the number of an entry
pub number_of_entry : (numbers slots : List ℕ) (i : ℕ) (x : TaskRef) → slice_get (entries_of numbers slots) i ≡ Some x → slice_get numbers i ≡ Some x.number
number_of_entry [] slots i x is = absurd (none-some x is)
number_of_entry (n ∷ numbers) [] i x is = absurd (none-some x is)
number_of_entry (n ∷ numbers) (s ∷ slots) zero x is = ap (λ (y : TaskRef). Some y.number) (same_Some (record { number = n; slot = s }) x is)
number_of_entry (n ∷ numbers) (s ∷ slots) (suc i) x is = number_of_entry numbers slots i x is

-- the entry of a number
pub entry_of_number : (numbers slots : List ℕ) (i number : ℕ) → length numbers ≡ length slots → slice_get numbers i ≡ Some number → (slot : ℕ) × (slice_get (entries_of numbers slots) i ≡ Some (record { number = number; slot = slot }))
entry_of_number [] slots i number is p = absurd (none-some number p)
entry_of_number (n ∷ numbers) [] i number is p = absurd (omega (arith, is))
entry_of_number (n ∷ numbers) (s ∷ slots) zero number is p = (s, paired_at (n ∷ numbers) (s ∷ slots) 0 number s p refl)
entry_of_number (n ∷ numbers) (s ∷ slots) (suc i) number is p = entry_of_number numbers slots i number (omega (arith, is)) p

-- entries ascend where their numbers do
pub ascends_from_rises : (numbers slots : List ℕ) → Rises numbers → Ascends (entries_of numbers slots)
ascends_from_rises numbers slots rises i j x y l p q = rises i j x.number y.number l (number_of_entry numbers slots i x p) (number_of_entry numbers slots j y q)

-- and the other way round
pub rises_from_ascends : (numbers slots : List ℕ) → length numbers ≡ length slots → Ascends (entries_of numbers slots) → Rises numbers
rises_from_ascends numbers slots is ascends i j x y l p q =
    let a = entry_of_number numbers slots i x is p in
    let b = entry_of_number numbers slots j y is q in
    ascends i j (record { number = x; slot = a.0 }) (record { number = y; slot = b.0 }) l a.1 b.1

-- ---- both lists change alike

pub paired_take : (n : ℕ) (numbers slots : List ℕ) → entries_of (take n numbers) (take n slots) ≡ take n (entries_of numbers slots)
paired_take zero numbers slots = refl
paired_take (suc n) [] slots = refl
paired_take (suc n) (k ∷ numbers) [] = refl
paired_take (suc n) (k ∷ numbers) (s ∷ slots) = ap (λ (l : List TaskRef). record { number = k; slot = s } ∷ l) (paired_take n numbers slots)

pub paired_drop : (n : ℕ) (numbers slots : List ℕ) → length numbers ≡ length slots → entries_of (drop n numbers) (drop n slots) ≡ drop n (entries_of numbers slots)
paired_drop zero numbers slots is = refl
paired_drop (suc n) [] slots is = refl
paired_drop (suc n) (k ∷ numbers) [] is = absurd (omega (arith, is))
paired_drop (suc n) (k ∷ numbers) (s ∷ slots) is = paired_drop n numbers slots (omega (arith, is))

pub paired_set : (numbers slots : List ℕ) (i number slot : ℕ) → entries_of (set numbers i number) (set slots i slot) ≡ set (entries_of numbers slots) i (record { number = number; slot = slot })
paired_set [] slots i number slot = refl
paired_set (k ∷ numbers) [] zero number slot = refl
paired_set (k ∷ numbers) [] (suc i) number slot = refl
paired_set (k ∷ numbers) (s ∷ slots) zero number slot = refl
paired_set (k ∷ numbers) (s ∷ slots) (suc i) number slot = ap (λ (l : List TaskRef). record { number = k; slot = s } ∷ l) (paired_set numbers slots i number slot)

pub paired_get : (numbers slots : List ℕ) (i : ℕ) (d : TaskRef) → length numbers ≡ length slots → i < length numbers → record { number = get_or numbers i 0; slot = get_or slots i 0 } ≡ get_or (entries_of numbers slots) i d
paired_get [] slots i d is l = absurd (omega (arith, l))
paired_get (k ∷ numbers) [] i d is l = absurd (omega (arith, is))
paired_get (k ∷ numbers) (s ∷ slots) zero d is l = refl
paired_get (k ∷ numbers) (s ∷ slots) (suc i) d is l = paired_get numbers slots i d (omega (arith, is)) (omega (arith, l))

last_pair : (numbers slots : List ℕ) (task : TaskRef) → length numbers ≡ length slots → entries_of (numbers ++ task.number ∷ []) (slots ++ task.slot ∷ []) ≡ entries_of numbers slots ++ task ∷ []
last_pair [] [] task is = refl
last_pair [] (s ∷ slots) task is = absurd (omega (arith, is))
last_pair (k ∷ numbers) [] task is = absurd (omega (arith, is))
last_pair (k ∷ numbers) (s ∷ slots) task is = ap (λ (l : List TaskRef). record { number = k; slot = s } ∷ l) (last_pair numbers slots task (omega (arith, is)))

pub paired_more : (numbers slots numbers_new slots_new : List ℕ) (entries : List TaskRef) (task : TaskRef) → length numbers ≡ length slots → numbers_new ≡ numbers ++ task.number ∷ [] → slots_new ≡ slots ++ task.slot ∷ [] → entries_of numbers slots ≡ entries →
    entries_of numbers_new slots_new ≡ entries ++ task ∷ []
paired_more numbers slots numbers_new slots_new entries task is a b old =
    ap (λ (l : List ℕ). entries_of l slots_new) a ∙ (ap (entries_of (numbers ++ task.number ∷ [])) b
    ∙ (last_pair numbers slots task is ∙ ap (λ (l : List TaskRef). l ++ task ∷ []) old))

-- ---- one entry more

-- what stands there then stood there before, or is that number
number_more : (numbers : List ℕ) (n x i : ℕ) → slice_get (numbers ++ n ∷ []) i ≡ Some x → (slice_get numbers i ≡ Some x) ⊎ ((i ≡ length numbers) × (n ≡ x))
number_more [] n x zero is = inr (refl, same_Some n x is)
number_more [] n x (suc i) is = absurd (none-some x is)
number_more (k ∷ numbers) n x zero is = inl is
number_more (k ∷ numbers) n x (suc i) is = elim (number_more numbers n x i is) [
  | inl there ↦ inl there
  | inr last ↦ inr (omega (arith, last.0), last.1)
]

-- numbers that ascend, and one above them
rises_more : (numbers : List ℕ) (n : ℕ) → Rises numbers → ((i x : ℕ) → slice_get numbers i ≡ Some x → x < n) → Rises (numbers ++ n ∷ [])
rises_more numbers n rises above i j x y l p q = by (number_more numbers n x i p) (number_more numbers n y j q)
  where
    by : (slice_get numbers i ≡ Some x) ⊎ ((i ≡ length numbers) × (n ≡ x)) → (slice_get numbers j ≡ Some y) ⊎ ((j ≡ length numbers) × (n ≡ y)) → x < y
    by (inl a) (inl b) = rises i j x y l a b
    by (inl a) (inr b) = let less = above i x a in omega (arith, less, b.1)
    by (inr a) (inl b) = let within = slice_get_within numbers j y b in absurd (omega (arith, l, a.0, within))
    by (inr a) (inr b) = absurd (omega (arith, l, a.0, b.0))

-- a task whose number is above all others comes to the end
pub paired_add : (numbers slots numbers_new slots_new : List ℕ) (entries : List TaskRef) (task : TaskRef) → ArePaired numbers slots → numbers_new ≡ numbers ++ task.number ∷ [] → slots_new ≡ slots ++ task.slot ∷ [] → entries_of numbers slots ≡ entries →
    IsBelow entries (length entries) task.number → ArePaired numbers_new slots_new
paired_add numbers slots numbers_new slots_new entries task paired a b is below = record {
  size = omega (arith, ap length a, ap length b, length-append numbers (task.number ∷ []), length-append slots (task.slot ∷ []), paired.size);
  ascending = subst Rises (sym a) (rises_more numbers task.number paired.ascending (λ i x p.
      let entry = entry_of_number numbers slots i x paired.size p in
      let own : TaskRef = record { number = x; slot = entry.0 } in
      let there : slice_get entries i ≡ Some own = ap (λ (l : List TaskRef). slice_get l i) (sym is) ∙ entry.1 in
      below i own (slice_get_within entries i own there) there));
}

-- ---- the stale entries are dropped

-- both lists, as far as their entries from the newest one on were looked at
pub record PairsCompact (test : TaskRef → Bool) (old_numbers old_slots numbers slots : List ℕ) (from i : ℕ) : Type 0 where
  pub long_numbers : length numbers ≡ length old_numbers
  pub long_slots : length slots ≡ length old_slots
  pub order : i ≤ from
  pub within : from ≤ length old_numbers
  pub entries : Compacts test (entries_of old_numbers old_slots) (entries_of numbers slots) from i

-- none was looked at
pub pairs_none : (test : TaskRef → Bool) (numbers slots : List ℕ) (n : ℕ) → length numbers ≡ length slots → n ≡ length numbers → PairsCompact test numbers slots numbers slots n n
pairs_none test numbers slots n paired is = record {
  long_numbers = refl;
  long_slots = refl;
  order = omega arith;
  within = omega (arith, is);
  entries = compacts_none test (entries_of numbers slots) n (is ∙ sym (paired_size numbers slots paired));
}

-- one passes
pub pairs_kept : (test : TaskRef → Bool) (old_numbers old_slots numbers slots : List ℕ) (from i place k : ℕ) → length old_numbers ≡ length old_slots → k + 1 ≡ i → place + 1 ≡ from →
    test (record { number = get_or numbers k 0; slot = get_or slots k 0 }) ≡ true → PairsCompact test old_numbers old_slots numbers slots from i →
    PairsCompact test old_numbers old_slots (set numbers place (get_or numbers k 0)) (set slots place (get_or slots k 0)) place k
pairs_kept test old_numbers old_slots numbers slots from i place k paired is at passes c =
    let now = entries_of numbers slots in
    let x : TaskRef = record { number = get_or numbers k 0; slot = get_or slots k 0 } in
    let there = paired_get numbers slots k x (omega (arith, paired, c.long_numbers, c.long_slots)) (omega (arith, is, c.order, c.within, c.long_numbers)) in
    let kept = compacts_kept test (entries_of old_numbers old_slots) now from i place k x is at there passes c.entries in
    record {
      long_numbers = length-set numbers place (get_or numbers k 0) ∙ c.long_numbers;
      long_slots = length-set slots place (get_or slots k 0) ∙ c.long_slots;
      order = omega (arith, is, at, c.order);
      within = omega (arith, at, c.within);
      entries = subst (λ (l : List TaskRef). Compacts test (entries_of old_numbers old_slots) l place k) (sym (paired_set numbers slots place (get_or numbers k 0) (get_or slots k 0))) kept;
    }

-- one does not
pub pairs_left : (test : TaskRef → Bool) (old_numbers old_slots numbers slots : List ℕ) (from i k : ℕ) → length old_numbers ≡ length old_slots → k + 1 ≡ i →
    test (record { number = get_or numbers k 0; slot = get_or slots k 0 }) ≡ false → PairsCompact test old_numbers old_slots numbers slots from i →
    PairsCompact test old_numbers old_slots numbers slots from k
pairs_left test old_numbers old_slots numbers slots from i k paired is fails c =
    let x : TaskRef = record { number = get_or numbers k 0; slot = get_or slots k 0 } in
    let there = paired_get numbers slots k x (omega (arith, paired, c.long_numbers, c.long_slots)) (omega (arith, is, c.order, c.within, c.long_numbers)) in
    record {
      long_numbers = c.long_numbers;
      long_slots = c.long_slots;
      order = omega (arith, is, c.order);
      within = c.within;
      entries = compacts_left test (entries_of old_numbers old_slots) (entries_of numbers slots) from i k x is there fails c.entries;
    }

-- as many pass as can
pub pairs_full : (test : TaskRef → Bool) (old_numbers old_slots numbers slots : List ℕ) (from i most : ℕ) → length old_numbers ≡ length old_slots → length (filter test (entries_of old_numbers old_slots)) ≤ most → from ≡ length old_numbers - most →
    PairsCompact test old_numbers old_slots numbers slots from i → drop from (entries_of numbers slots) ≡ filter test (entries_of old_numbers old_slots)
pairs_full test old_numbers old_slots numbers slots from i most paired few full c =
    compacts_full test (entries_of old_numbers old_slots) (entries_of numbers slots) from i most few (full ∙ ap (λ (n : ℕ). n - most) (sym (paired_size old_numbers old_slots paired))) c.entries

-- two lists whose entries are some of those that ascend
pub pairs_ascend : (test : TaskRef → Bool) (numbers slots : List ℕ) (entries : List TaskRef) → length numbers ≡ length slots → entries_of numbers slots ≡ filter test entries → Ascends entries → ArePaired numbers slots
pairs_ascend test numbers slots entries is all ascends = record {
  size = is;
  ascending = rises_from_ascends numbers slots is (subst Ascends (sym all) (filtered_ascends test entries ascends));
}
