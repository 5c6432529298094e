-- The tasks that a sweep finds, sorted by number, are those that it ends.
use Rattle.std.proofs.Common.{◌≡◌, ℕ, ◌+◌, ◌<◌, ◌≤◌, ◌==◌, ◌&&◌, ◌||◌, zero, suc, Bool, true, false, cond, inl, inr, List, [], ◌∷◌, ◌++◌, Option, Some, None, refl, sym, ap, ◌∙◌, arith, subst}
use Rattle.std.specs.Prelude.{not, slice_index_or}
use Rattle.std.specs.Option.{option_map}
use Rattle.std.proofs.Math.Nat.{lt_of_not-le}
use Rattle.std.specs.List.{All}
use Rattle.std.specs.List.Sorted.{IsPermutation, IsNonDecreasingBy}
use Rattle.std.proofs.lemmas.Bool.{false≢true, and_parts, eqb-true, eq-eqb, or_cases, or_left, or_right, false_from_ne_true}
use Rattle.std.proofs.lemmas.List.Sorted.{sum_by-IsPermutation, All-permutation}
use Rattle.std.proofs.lemmas.List.Elements.{All-head, All-tail}
use Rattle.std.proofs.lemmas.Option.{none-some, same_Some}
use Rattle.queue_code.specs.Calls.{how_many}
use Rattle.executor_model.specs.Histories.{is_end}
use Rattle.executor_model.specs.Answers.{is_ended_by}
use Rattle.task_table.specs.declared.seat.Seat.{Seat}
use Rattle.task_table.specs.declared.seat.TaskRef.{TaskRef}
use Rattle.task_table.specs.Seats.{task_in, slot_of, waits, is_alive, is_waiting_in, is_running_in}
use Rattle.task_table.specs.Tables.{TableView}
use Rattle.task_table.specs.Ends.{IsAscending, ends_task}
use Rattle.task_table.specs.Endings.{numbers_of, IsOverAt, SweepEnds}
use Rattle.task_table.specs.Changes.{swept, after_sweep}
use Rattle.task_table.specs.Formed.{IsFormed}
use Rattle.task_table.specs.own.Found.{found}
use Rattle.task_table.proofs.Written.{AreApart}
use Rattle.task_table.proofs.Formed.{at_swept}
use Rattle.task_table.proofs.Firsts.{waits_is}
use Rattle.task_table.proofs.Queuing.{how_counts}
use Rattle.task_table.proofs.Finding.{IsFound, all_found}

-- ---- numbers among those of some tasks

abbrev has_number : ℕ → TaskRef → Bool
has_number k r = r.number == k

-- of tasks of which something holds, one that has this number
end_of : (P : TaskRef → Type 0) (rs : List TaskRef) (k : ℕ) → All P rs → is_end k (numbers_of rs) ≡ true → (r : TaskRef) × P r × (r.number ≡ k)
end_of P [] k all q = absurd (false≢true q)
end_of P (r ∷ rs) k all q = elim (or_cases (r.number == k) (is_end k (numbers_of rs)) q) [ inl here ↦ (r, All-head P r rs all, eqb-true r.number k here) | inr later ↦ end_of P rs k (All-tail P r rs all) later ]

-- a number is among them where they have it once or more often
some_end : (rs : List TaskRef) (k : ℕ) → is_end k (numbers_of rs) ≡ true → 1 ≤ how_many (has_number k) rs
some_end [] k q = absurd (false≢true q)
some_end (r ∷ rs) k q = by (r.number == k) q (some_end rs k)
  where
    by : (b : Bool) → (b || is_end k (numbers_of rs)) ≡ true → (is_end k (numbers_of rs) ≡ true → 1 ≤ how_many (has_number k) rs) → 1 ≤ cond b (1 + how_many (has_number k) rs) (how_many (has_number k) rs)
    by true q rest = omega arith
    by false q rest = rest q

end_some : (rs : List TaskRef) (k : ℕ) → 1 ≤ how_many (has_number k) rs → is_end k (numbers_of rs) ≡ true
end_some [] k some = absurd (omega (arith, some))
end_some (r ∷ rs) k some = by (r.number == k) some (end_some rs k)
  where
    by : (b : Bool) → 1 ≤ cond b (1 + how_many (has_number k) rs) (how_many (has_number k) rs) → (1 ≤ how_many (has_number k) rs → is_end k (numbers_of rs) ≡ true) → (b || is_end k (numbers_of rs)) ≡ true
    by true some rest = refl
    by false some rest = rest some

-- in another order they have it as often
as_often : (p : TaskRef → Bool) (xs ys : List TaskRef) → IsPermutation xs ys → how_many p ys ≡ how_many p xs
as_often p xs ys moved = how_counts p ys ∙ (sum_by-IsPermutation (λ r. cond (p r) 1 0) xs ys moved ∙ sym (how_counts p xs))

-- ---- what a sweep finds

-- no number comes twice
abbrev AreOnce : List TaskRef → Type 0
AreOnce rs = (k : ℕ) → how_many (has_number k) rs ≤ 1

tail_apart : (o : Option Seat) (slots : List (Option Seat)) → AreApart (o ∷ slots) → AreApart slots
tail_apart o slots apart i j x y p q e = omega (arith, apart (suc i) (suc j) x y p q e)

few_of : (h n : ℕ) → n ≡ 1 + h → (1 ≤ h → ⊥) → n ≤ 1
few_of zero n same none = omega (arith, same)
few_of (suc h) n same none = absurd (none (omega arith))

found_once : (test : Seat → Bool) (slots : List (Option Seat)) (start : ℕ) → AreApart slots → AreOnce (found test start slots)
found_once test [] start apart k = omega arith
found_once test (None ∷ slots) start apart k = found_once test slots (start + 1) (tail_apart None slots apart) k
found_once test (Some x ∷ slots) start apart k = by (test x) (x.number == k) refl (found_once test slots (start + 1) (tail_apart (Some x) slots apart) k)
  where
    rest : List TaskRef
    rest = found test (start + 1) slots

    none : x.number ≡ k → 1 ≤ how_many (has_number k) rest → ⊥
    none same some =
        let e = end_of (IsFound test (start + 1) slots) rest k (all_found test slots (start + 1)) (end_some rest k some) in
        let clash : 0 ≡ suc e.1.place = apart 0 (suc e.1.place) x e.1.task refl e.1.there (same ∙ sym (e.1.named ∙ e.2)) in
        omega (arith, clash)

    by : (b c : Bool) → (x.number == k) ≡ c → how_many (has_number k) rest ≤ 1 → how_many (has_number k) (cond b (record { number = x.number; slot = start } ∷ []) [] ++ rest) ≤ 1
    by false c q few = few
    by true true q few =
        let here : cond (x.number == k) (1 + how_many (has_number k) rest) (how_many (has_number k) rest) ≡ 1 + how_many (has_number k) rest = ap (λ b. cond b (1 + how_many (has_number k) rest) (how_many (has_number k) rest)) q in
        let low : (1 ≤ how_many (has_number k) rest → ⊥) = none (eqb-true x.number k q) in
        few_of (how_many (has_number k) rest) _ here low
    by true false q few = subst (λ n. n ≤ 1) (sym (ap (λ b. cond b (1 + how_many (has_number k) rest) (how_many (has_number k) rest)) q)) few

-- it finds each task that passes
found_has : (test : Seat → Bool) (slots : List (Option Seat)) (start i : ℕ) (x : Seat) → slot_of slots i ≡ Some x → test x ≡ true → is_end x.number (numbers_of (found test start slots)) ≡ true
found_has test [] start i x there q = absurd (none-some x there)
found_has test (None ∷ slots) start zero x there q = absurd (none-some x there)
found_has test (Some y ∷ slots) start zero x there q =
    let same : y ≡ x = same_Some y x there in
    let here : test y ≡ true = ap test same ∙ q in
    subst (λ (b : Bool). is_end x.number (numbers_of (cond b (record { number = y.number; slot = start } ∷ []) [] ++ found test (start + 1) slots)) ≡ true) (sym here)
    (or_left (y.number == x.number) (is_end x.number (numbers_of (found test (start + 1) slots))) (eq-eqb y.number x.number (ap (λ (z : Seat). z.number) same)))
found_has test (None ∷ slots) start (suc i) x there q = found_has test slots (start + 1) i x there q
found_has test (Some y ∷ slots) start (suc i) x there q = by (test y) (found_has test slots (start + 1) i x there q)
  where
    by : (b : Bool) → is_end x.number (numbers_of (found test (start + 1) slots)) ≡ true → is_end x.number (numbers_of (cond b (record { number = y.number; slot = start } ∷ []) [] ++ found test (start + 1) slots)) ≡ true
    by true rest = or_right (y.number == x.number) (is_end x.number (numbers_of (found test (start + 1) slots))) rest
    by false rest = rest

-- ---- sorted

all_weaken : (P Q : TaskRef → Type 0) (rs : List TaskRef) → ((r : TaskRef) → P r → Q r) → All P rs → All Q rs
all_weaken P Q rs f all = λ k d low. f (slice_index_or rs k d) (all k d low)

tail_once : (r : TaskRef) (rs : List TaskRef) → AreOnce (r ∷ rs) → AreOnce rs
tail_once r rs once k = by (r.number == k) (once k)
  where
    by : (b : Bool) → cond b (1 + how_many (has_number k) rs) (how_many (has_number k) rs) ≤ 1 → how_many (has_number k) rs ≤ 1
    by true few = omega (arith, few)
    by false few = few

strict : (a b : ℕ) → a ≤ b → (a ≡ b → ⊥) → a < b
strict a b le differ = lt_of_not-le (λ above. differ (omega (arith, le, above)))

-- tasks in order, no number of which comes twice, ascend
ascends : (rs : List TaskRef) → IsNonDecreasingBy (λ (r : TaskRef). r.number) rs → AreOnce rs → IsAscending (numbers_of rs)
ascends [] order once = tt
ascends (r ∷ rs) order once = (above, ascends rs (λ i j d le low. order (suc i) (suc j) d (omega (arith, le)) (omega (arith, low))) (tail_once r rs once))
  where
    above : (j : ℕ) → is_end j (numbers_of rs) ≡ true → r.number < j
    above j q =
        let e = end_of (λ (s : TaskRef). r.number ≤ s.number) rs j (λ i d low. order 0 (suc i) d (omega arith) (omega (arith, low))) q in
        let some = some_end rs j q in
        let differ : r.number ≡ j → ⊥ =
        λ same. let two : cond (r.number == j) (1 + how_many (has_number j) rs) (how_many (has_number j) rs) ≡ 1 + how_many (has_number j) rs = ap (λ b. cond b (1 + how_many (has_number j) rs) (how_many (has_number j) rs)) (eq-eqb r.number j same) in
        omega (arith, two, some, once j)
        in
        strict r.number j (omega (arith, e.1, e.2)) differ

-- of a task that is swept nothing may come any more
over_swept : (m : TableView) (i : ℕ) (x : Seat) → IsFormed m → slot_of m.slots i ≡ Some x → ends_task m x ≡ true → is_alive (task_in (swept m.stopped m.policies m.moment x)) ≡ false
over_swept m i x formed there ends =
    let parts = waits_is (task_in x) (and_parts (waits (task_in x)) (is_ended_by m.stopped m.policies m.moment x.timing x.due) ends).0 in
    let out : x.kept ≡ false = false_from_ne_true x.kept (λ held. absurd (false≢true (sym parts.1 ∙ ((formed.seated i x there).kept held).1))) in
    λ j. ((is_waiting_in (parts.0 j) && not (ends j || x.cancelled)) || out j) || is_running_in (parts.0 j)

-- what the sweep found, sorted, is what it ends
pub sweep_ends : (m new : TableView) (refs sorted : List TaskRef) → IsFormed m → new ≡ after_sweep m → refs ≡ found (ends_task m) 0 m.slots → IsPermutation refs sorted → IsNonDecreasingBy (λ (r : TaskRef). r.number) sorted → SweepEnds m new sorted
sweep_ends m new refs sorted formed is all moved order = record {
  is = is;
  ended = record {
    ascending = ascends sorted order (λ k. subst (λ n. n ≤ 1) (sym (often (has_number k))) (found_once (ends_task m) m.slots 0 formed.apart k));
    each = λ k q. let e = end_of (IsFound (ends_task m) 0 m.slots) sorted k each q in (e.1.place, e.1.task, e.1.there, e.1.named ∙ e.2, e.1.passes);
    all = λ i x there q. end_some sorted x.number (subst (λ n. 1 ≤ n) (sym (often (has_number x.number))) (some_end (found (ends_task m) 0 m.slots) x.number (found_has (ends_task m) m.slots 0 i x there q)));
  };
  over = subst (λ v. All (IsOverAt v) sorted) (sym is) (all_weaken (IsFound (ends_task m) 0 m.slots) (IsOverAt (after_sweep m)) sorted over each);
}
  where
    each : All (IsFound (ends_task m) 0 m.slots) sorted
    each = All-permutation (IsFound (ends_task m) 0 m.slots) refs sorted moved (subst (All (IsFound (ends_task m) 0 m.slots)) (sym all) (all_found (ends_task m) m.slots 0))

    often : (p : TaskRef → Bool) → how_many p sorted ≡ how_many p (found (ends_task m) 0 m.slots)
    often p = as_often p refs sorted moved ∙ ap (how_many p) all

    over : (r : TaskRef) → IsFound (ends_task m) 0 m.slots r → IsOverAt (after_sweep m) r
    over r f =
        let place : r.slot ≡ f.place = omega (arith, f.at) in
        record {
          task = swept m.stopped m.policies m.moment f.task;
          there = ap (slot_of (after_sweep m).slots) place ∙ (at_swept m f.place ∙ ap (option_map (λ x. swept m.stopped m.policies m.moment x)) f.there);
          named = f.named;
          over = over_swept m f.place f.task formed f.there f.passes;
        }
