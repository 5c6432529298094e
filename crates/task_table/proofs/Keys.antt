-- What the calls of a queue make of what stands in it, by slot.
use Rattle.std.proofs.Common.{◌≡◌, ℕ, ◌++◌, zero, suc, true, false, List, [], ◌∷◌, replicate, Option, Some, None, inl, inr, refl, sym, ap, ◌∙◌, arith}
use Rattle.std.specs.Option.{option_map}
use Rattle.std.proofs.lemmas.Bool.Decides.{nat_tests}
use Rattle.std.proofs.lemmas.Option.{none-some, same_Some}
use Rattle.delay_queue.specs.Queues.{comes_before}
use Rattle.delay_queue.specs.slots.Entries.{Key}
use Rattle.delay_queue.specs.slots.Entries as entries
use Rattle.delay_queue.specs.slots.Queues.{key_in, IsLeast}
use Rattle.executor_model.proofs.Tables.{at_replicate}
use Rattle.task_table.specs.Orders.{pair_of, keys, IsLeastKey}

-- there is room for more slots
pub keys_grown : (entries : List (Option Key)) (n i : ℕ) → keys entries i ≡ keys (entries ++ replicate n None) i
keys_grown [] n i = ap (option_map pair_of) (sym (at_replicate n i None))
keys_grown (key ∷ entries) n zero = refl
keys_grown (key ∷ entries) n (suc i) = keys_grown entries n i

-- what an entry comes before does not come before it
not_before : (key other : Key) (slot i : ℕ) → entries.comes_before key slot other i ≡ true → comes_before other.due other.rank key.due key.rank ≡ false
not_before key other slot i q = grind (arith, nat_tests)

-- an entry does not come before itself
not_itself : (due rank : ℕ) → comes_before due rank due rank ≡ false
not_itself due rank = grind (arith, nat_tests)

-- the least entry
pub keys_least : (entries : List (Option Key)) (key : Key) (slot : ℕ) → IsLeast entries key slot → IsLeastKey (keys entries) slot key.due key.rank
keys_least entries key slot is = record { there = ap (option_map pair_of) is.there; least = λ i later other q. by i later other (key_in entries i) refl q }
  where
    later_on : (i : ℕ) (k : Key) → key_in entries i ≡ Some k → comes_before k.due k.rank key.due key.rank ≡ false
    later_on i k there = elim (is.least i k there) [
      | inl here ↦
          let same : k ≡ key = same_Some k key (sym there ∙ (ap (key_in entries) here ∙ is.there)) in
          ap (λ (j : Key). comes_before j.due j.rank key.due key.rank) same ∙ not_itself key.due key.rank
      | inr before ↦ not_before key k slot i before
    ]

    by : (i later other : ℕ) (o : Option Key) → key_in entries i ≡ o → option_map pair_of o ≡ Some (later, other) → comes_before later other key.due key.rank ≡ false
    by i later other None there q = absurd (none-some (later, other) q)
    by i later other (Some k) there q =
        let same : (k.due, k.rank) ≡ (later, other) = same_Some (k.due, k.rank) (later, other) q in
        sym (ap (λ (p : ℕ × ℕ). comes_before p.0 p.1 key.due key.rank) same) ∙ later_on i k there
