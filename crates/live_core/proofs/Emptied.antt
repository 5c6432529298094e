-- The empty slots, once one is taken, and once one is emptied.
use Rattle.std.proofs.Common.{◌≡◌, ℕ, ◌+◌, ◌<◌, ◌==◌, ◌||◌, zero, suc, Bool, true, false, cond, List, [], ◌∷◌, ◌++◌, length, Option, Some, None, refl, sym, ap, ◌∙◌, arith}
use Rattle.std.specs.Prelude.{is_some}
use Rattle.std.proofs.Math.ListN.{set}
use Rattle.std.proofs.lemmas.Bool.{false≢true, eqb-true, eq-eqb, false_from_ne_true}
use Rattle.std.proofs.lemmas.List.Folds.{list_any-append}
use Rattle.std.proofs.lemmas.Option.{none-some}
use Rattle.queue_code.specs.Calls.{how_many}
use Rattle.executor_model.proofs.Tables.{at_set}
use Rattle.live_core.specs.Empties.{number_in, is_among, AreOnce, AreEmpty}

-- ---- lists of slots

-- what is among some slots and one more
pub among_more : (i slot : ℕ) (free : List ℕ) → is_among i (free ++ slot ∷ []) ≡ (is_among i free || (slot == i))
among_more i slot free = list_any-append (λ j. j == i) free (slot ∷ []) ∙ ap (λ b. is_among i free || b) (or_false (slot == i))
  where
    or_false : (b : Bool) → (b || false) ≡ b
    or_false true = refl
    or_false false = refl

pub or_parts : {X : Type 0} (b c : Bool) → (b || c) ≡ true → (b ≡ true → X) → (c ≡ true → X) → X
or_parts true c q left right = left refl
or_parts false c q left right = right q

or_none : (b c : Bool) → (b || c) ≡ false → (b ≡ false) × (c ≡ false)
or_none true c q = absurd (false≢true (sym q))
or_none false c q = (refl, q)

left_of : (b c : Bool) → b ≡ true → (b || c) ≡ true
left_of b c q = ap (λ d. d || c) q

right_of : (b c : Bool) → c ≡ true → (b || c) ≡ true
right_of true c q = refl
right_of false c q = q

-- a slot is another one, either way
apart : (x y : ℕ) → (x == y) ≡ false → (y == x) ≡ false
apart x y q = false_from_ne_true (y == x) (λ e. absurd (false≢true (sym q ∙ eq-eqb x y (sym (eqb-true y x e)))))

-- one more that is not among them
pub once_more : (free : List ℕ) (slot : ℕ) → AreOnce free → is_among slot free ≡ false → AreOnce (free ++ slot ∷ [])
once_more [] slot once none = (refl, tt)
once_more (x ∷ free) slot once none =
    let parts = or_none (x == slot) (is_among slot free) none in
    (among_more x slot free ∙ (λ i. once.0 i || apart x slot parts.0 i), once_more free slot once.1 parts.1)

-- the last one is not among those before it
once_last : (free : List ℕ) (slot : ℕ) → AreOnce (free ++ slot ∷ []) → AreOnce free × (is_among slot free ≡ false)
once_last [] slot once = (tt, refl)
once_last (x ∷ free) slot once =
    let rest = once_last free slot once.1 in
    let parts = or_none (is_among x free) (slot == x) (sym (among_more x slot free) ∙ once.0) in
    ((parts.0, rest.0), λ i. apart slot x parts.1 i || rest.1 i)

pub length_more : (free : List ℕ) (slot : ℕ) → length (free ++ slot ∷ []) ≡ 1 + length free
length_more [] slot = refl
length_more (x ∷ free) slot = let rest = length_more free slot in omega (arith, rest)

-- ---- how many slots hold a task

-- once an empty one is filled
count_filled : (held : List (Option ℕ)) (slot number : ℕ) → slot < length held → number_in held slot ≡ None → how_many is_some (set held slot (Some number)) ≡ 1 + how_many is_some held
count_filled [] slot number low empty = absurd (omega (arith, low))
count_filled (o ∷ held) zero number low empty = ap (λ (n : ℕ). 1 + n) (sym (ap (λ (p : Option ℕ). cond (is_some p) (1 + how_many is_some held) (how_many is_some held)) empty))
count_filled (o ∷ held) (suc slot) number low empty = by (is_some o) (count_filled held slot number (omega (arith, low)) empty)
  where
    by : (b : Bool) → how_many is_some (set held slot (Some number)) ≡ 1 + how_many is_some held →
        cond b (1 + how_many is_some (set held slot (Some number))) (how_many is_some (set held slot (Some number))) ≡ 1 + cond b (1 + how_many is_some held) (how_many is_some held)
    by true rest = ap (λ (n : ℕ). 1 + n) rest
    by false rest = rest

-- once one is emptied
pub count_emptied : (held : List (Option ℕ)) (slot number : ℕ) → number_in held slot ≡ Some number → how_many is_some held ≡ 1 + how_many is_some (set held slot None)
count_emptied [] slot number is = absurd (none-some number is)
count_emptied (o ∷ held) zero number is = ap (λ (p : Option ℕ). cond (is_some p) (1 + how_many is_some held) (how_many is_some held)) is
count_emptied (o ∷ held) (suc slot) number is = by (is_some o) (count_emptied held slot number is)
  where
    by : (b : Bool) → how_many is_some held ≡ 1 + how_many is_some (set held slot None) →
        cond b (1 + how_many is_some held) (how_many is_some held) ≡ 1 + cond b (1 + how_many is_some (set held slot None)) (how_many is_some (set held slot None))
    by true rest = ap (λ (n : ℕ). 1 + n) rest
    by false rest = rest

-- a slot that holds something is one of them
pub number_within : (held : List (Option ℕ)) (slot number : ℕ) → number_in held slot ≡ Some number → slot < length held
number_within [] slot number is = absurd (none-some number is)
number_within (o ∷ held) zero number is = omega arith
number_within (o ∷ held) (suc slot) number is = omega (arith, number_within held slot number is)

pub length_set : (held : List (Option ℕ)) (slot : ℕ) (o : Option ℕ) → length (set held slot o) ≡ length held
length_set [] slot o = refl
length_set (p ∷ held) zero o = refl
length_set (p ∷ held) (suc slot) o = let rest = length_set held slot o in omega (arith, rest)

-- what stands in another slot stays
pub number_stays : (held : List (Option ℕ)) (slot i : ℕ) (o : Option ℕ) → slot < length held → (slot == i) ≡ false → number_in (set held slot o) i ≡ number_in held i
number_stays held slot i o low other = at_set held slot i o None low ∙ ap (λ b. cond b o (number_in held i)) other

pub number_here : (held : List (Option ℕ)) (slot : ℕ) (o : Option ℕ) → slot < length held → number_in (set held slot o) slot ≡ o
number_here held slot o low = at_set held slot slot o None low ∙ ap (λ b. cond b o (number_in held slot)) (eq-eqb slot slot refl)

-- ---- the last of the empty slots is taken

last_among : (rest : List ℕ) (slot : ℕ) → is_among slot (rest ++ slot ∷ []) ≡ true
last_among rest slot = among_more slot slot rest ∙ right_of (is_among slot rest) (slot == slot) (eq-eqb slot slot refl)

pub last_empty : (held : List (Option ℕ)) (rest : List ℕ) (slot : ℕ) → AreEmpty held (rest ++ slot ∷ []) → (slot < length held) × (number_in held slot ≡ None)
last_empty held rest slot empty = (empty.within slot (last_among rest slot), empty.empty slot (last_among rest slot))

pub taken : (held : List (Option ℕ)) (rest : List ℕ) (slot number : ℕ) → AreEmpty held (rest ++ slot ∷ []) → AreEmpty (set held slot (Some number)) rest
taken held rest slot number empty =
    let last = once_last rest slot empty.once in
    let low = empty.within slot (last_among rest slot) in
    let others = λ (i : ℕ) (q : is_among i rest ≡ true). among_more i slot rest ∙ left_of (is_among i rest) (slot == i) q in
    record {
      within = λ i q. let there = empty.within i (others i q) in omega (arith, there, length_set held slot (Some number));
      empty = λ i q. number_stays held slot i (Some number) low (false_from_ne_true (slot == i) (λ e. absurd (false≢true (sym last.1 ∙ (ap (λ (k : ℕ). is_among k rest) (eqb-true slot i e) ∙ q)))))
          ∙ empty.empty i (others i q);
      once = last.0;
      count = omega (arith, empty.count, length_more rest slot, count_filled held slot number low (empty.empty slot (last_among rest slot)), length_set held slot (Some number));
    }

-- ---- a slot is emptied

pub released : (held : List (Option ℕ)) (free : List ℕ) (slot number : ℕ) → number_in held slot ≡ Some number → AreEmpty held free → AreEmpty (set held slot None) (free ++ slot ∷ [])
released held free slot number is empty =
    let low = number_within held slot number is in
    let none : is_among slot free ≡ false = false_from_ne_true (is_among slot free) (λ e. absurd (none-some number (sym (empty.empty slot e) ∙ is))) in
    record {
      within = λ i q. or_parts (is_among i free) (slot == i) (sym (among_more i slot free) ∙ q)
          (λ old. let there = empty.within i old in omega (arith, there, length_set held slot None))
          (λ own. omega (arith, low, eqb-true slot i own, length_set held slot None));
      empty = λ i q. or_parts (is_among i free) (slot == i) (sym (among_more i slot free) ∙ q)
          (λ old. number_stays held slot i None low (false_from_ne_true (slot == i) (λ e. absurd (false≢true (sym none ∙ (ap (λ (k : ℕ). is_among k free) (eqb-true slot i e) ∙ old))))) ∙ empty.empty i old)
          (λ own. ap (number_in (set held slot None)) (sym (eqb-true slot i own)) ∙ number_here held slot None low);
      once = once_more free slot empty.once none;
      count = omega (arith, empty.count, length_more free slot, count_emptied held slot number is, length_set held slot None);
    }

-- then there are fewer empty ones than slots
pub has_room : (held : List (Option ℕ)) (free : List ℕ) (slot number : ℕ) → number_in held slot ≡ Some number → AreEmpty held free → length free < length held
has_room held free slot number is empty = omega (arith, empty.count, count_emptied held slot number is)
