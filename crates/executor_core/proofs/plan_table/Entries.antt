-- What the calls of a queue make of what stands in it, by slot.
use Rattle.std.proofs.Common.{◌≡◌, ℕ, ◌+◌, suc, Bool, true, false, cond, List, [], ◌∷◌, length, replicate, Option, Some, None, is_some, inl, inr, refl, sym, ap, ◌∙◌, arith}
use Rattle.std.specs.Prelude.{slice_index_or}
use Rattle.std.specs.List.{range_with_len}
use Rattle.std.specs.Option.{option_map}
use Rattle.std.proofs.lemmas.Bool.Decides.{nat_tests}
use Rattle.std.proofs.lemmas.Option.{none-some, same_Some}
use Rattle.std.proofs.lemmas.List.{length-replicate}
use Rattle.queue_code.specs.Calls.{how_many}
use Rattle.delay_queue.specs.Queues.{due_in, comes_before, entry_count, IsLeast}
use Rattle.executor_model.proofs.Tables.{at_replicate}
use Rattle.task_table.specs.Orders.{IsLeastKey}
use Rattle.task_table.proofs.Queuing.{how_counts}
use Rattle.executor_core.specs.plan_table.Numbered.{keys_by}

-- an entry of a slot: its due moment, and the number of the slot
abbrev pub entry_at : ℕ → Option ℕ → Option (ℕ × ℕ)
entry_at slot due = option_map (λ d. (d, slot)) due

-- what an entry comes before does not come before it
not_before : (due slot later i : ℕ) → comes_before due slot later i ≡ true → comes_before later i due slot ≡ false
not_before due slot later i q = grind (arith, nat_tests)

-- an entry does not come before itself
not_itself : (due slot : ℕ) → comes_before due slot due slot ≡ false
not_itself due slot = grind (arith, nat_tests)

-- the least entry
pub keys_least : (entries : List (Option ℕ)) (due slot : ℕ) → IsLeast entries due slot → IsLeastKey (keys_by entries) slot due slot
keys_least entries due slot is = record { there = ap (entry_at slot) is.there; least = λ i later other q. by i later other (due_in entries i) refl q }
  where
    later_on : (i d : ℕ) → due_in entries i ≡ Some d → comes_before d i due slot ≡ false
    later_on i d there = elim (is.least i d there) [
      | inl here ↦
          let same : d ≡ due = same_Some d due (sym there ∙ (ap (due_in entries) here ∙ is.there)) in
          (λ j. comes_before (same j) (here j) due slot) ∙ not_itself due slot
      | inr before ↦ not_before due slot d i before
    ]

    by : (i later other : ℕ) (o : Option ℕ) → due_in entries i ≡ o → entry_at i o ≡ Some (later, other) → comes_before later other due slot ≡ false
    by i later other None there q = absurd (none-some (later, other) q)
    by i later other (Some d) there q =
        let same : (d, i) ≡ (later, other) = same_Some (d, i) (later, other) q in
        sym (ap (λ (p : ℕ × ℕ). comes_before p.0 p.1 due slot) same) ∙ later_on i d there

-- a queue that has room, and no entry
pub keys_none : (entries : List (Option ℕ)) (n i : ℕ) → entries ≡ replicate n None → keys_by entries i ≡ None
keys_none entries n i none = ap (λ l. keys_by l i) none ∙ ap (entry_at i) (at_replicate n i None)

-- and there is room for as many slots
pub entries_room : (entries : List (Option ℕ)) (n : ℕ) → entries ≡ replicate n None → length entries ≡ n
entries_room entries n none = ap length none ∙ length-replicate n None

first_is : (n : ℕ) → n ≡ n + 0
first_is n = omega arith

next_is : (n k : ℕ) → n + 1 + k ≡ n + suc k
next_is n k = omega arith

none_before : (n : ℕ) → 0 + n ≡ n
none_before n = omega arith

-- a count by places is one of the list
count_to : (f : ℕ → Bool) (first : ℕ) (xs : List (Option ℕ)) → ((i : ℕ) → f (first + i) ≡ is_some (slice_index_or xs i None)) → how_many f (range_with_len first (length xs)) ≡ how_many is_some xs
count_to f first [] same = refl
count_to f first (x ∷ xs) same =
    let at : f first ≡ is_some x = ap f (first_is first) ∙ same 0 in
    let rest = count_to f (first + 1) xs (λ i. ap f (next_is first i) ∙ same (suc i)) in
    λ i. cond (at i) (1 + rest i) (rest i)

-- how many entries a queue has, counted by slot
pub keys_counted : (entries : List (Option ℕ)) → entry_count entries ≡ how_many (λ i. is_some (keys_by entries i)) (range_with_len 0 (length entries))
keys_counted entries = sym (count_to (λ i. is_some (keys_by entries i)) 0 entries (λ i. ap (λ j. is_some (keys_by entries j)) (none_before i) ∙ stands i (due_in entries i)) ∙ how_counts is_some entries)
  where
    stands : (i : ℕ) (o : Option ℕ) → is_some (entry_at i o) ≡ is_some o
    stands i None = refl
    stands i (Some due) = refl
