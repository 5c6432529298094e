-- The table by slot number.
use Rattle.std.proofs.Common.{◌≡◌, ◌≢◌, ⊎_elim, ℕ, ◌<◌, ◌≤◌, List, [], Option, None, set, replicate, length, sym, ap, subst, ◌∙◌, arith, length-set, get_or-set_same, get_or-set_other}
use Rattle.std.proofs.lemmas.Bool.{cases_eq}
use Rattle.std.proofs.lemmas.List.{get_or_past, length-replicate, get_or-replicate}
use Rattle.std.proofs.lemmas.List.FromFn.{length-map-range_with_len, get_or-map-range_with_len, fill_by_all}
use Rattle.delay_queue.specs.slots.Queues.{key_in}
use Rattle.delay_queue.specs.slots.own.Heaps.{key_in_heap, table}
use Rattle.delay_queue.specs.slots.Entries.{Key, Seen}

-- the table has a place for each slot
pub length-table : (heap : List Seen) (places : List ℕ) → length (table heap places) ≡ length places
length-table heap places = length-map-range_with_len (key_in_heap heap places) 0 (length places)

-- what the table says of a slot below the count
pub key_in-table : (heap : List Seen) (places : List ℕ) (slot : ℕ) → slot < length places → key_in (table heap places) slot ≡ key_in_heap heap places slot
key_in-table heap places slot known = get_or-map-range_with_len (key_in_heap heap places) 0 (length places) slot slot None known (omega arith)

-- and of one past it
pub key_in-past : (heap : List Seen) (places : List ℕ) (slot : ℕ) → length places ≤ slot → key_in (table heap places) slot ≡ None
key_in-past heap places slot past = get_or_past (table heap places) slot None (omega (arith, past, length-table heap places))

-- a list that says the same of each slot is the table
pub table_is : (heap : List Seen) (places : List ℕ) (queue : List (Option Key)) → length queue ≡ length places
    → ((slot : ℕ) → slot < length places → key_in queue slot ≡ key_in_heap heap places slot) → table heap places ≡ queue
table_is heap places queue size says = sym (fill_by_all (key_in_heap heap places) queue (length places) None size says)

-- one slot's key is another one, and the others are as before
pub table_set : (heap heap' : List Seen) (places places' : List ℕ) (queue : List (Option Key)) (slot : ℕ) (key : Option Key) → table heap places ≡ queue → length places' ≡ length places
    → slot < length places → key_in_heap heap' places' slot ≡ key → ((k : ℕ) → k ≢ slot → key_in_heap heap' places' k ≡ key_in_heap heap places k) → table heap' places' ≡ set queue slot key
table_set heap heap' places places' queue slot key view size known here others =
    let all : length queue ≡ length places = ap length (sym view) ∙ length-table heap places in
    table_is heap' places' (set queue slot key) (length-set queue slot key ∙ all ∙ sym size)
    (λ k short. ⊎_elim
    (λ (same : k ≡ slot). subst (λ (n : ℕ). key_in (set queue slot key) n ≡ key_in_heap heap' places' n) (sym same) (get_or-set_same queue slot key None (omega arith) ∙ sym here))
    (λ (other : k ≢ slot). get_or-set_other queue slot k key None other ∙ ap (λ (l : List (Option Key)). key_in l k) (sym view)
    ∙ key_in-table heap places k (omega arith) ∙ sym (others k other))
    (cases_eq k slot))

-- without an entry no slot has one
pub table_empty : (places : List ℕ) → table [] places ≡ replicate (length places) None
table_empty places =
    table_is [] places (replicate (length places) None) (length-replicate (length places) None) (λ slot short. get_or-replicate (length places) slot None None short)

-- an empty heap beside the places of this number of slots
pub table_none : (heap : List Seen) (places : List ℕ) (slots : ℕ) → heap ≡ [] → length places ≡ slots → table heap places ≡ replicate slots None
table_none heap places slots none size =
    subst (λ (l : List Seen). table l places ≡ replicate slots None) (sym none) (table_empty places ∙ ap (λ (n : ℕ). replicate {A = Option Key} n None) size)
