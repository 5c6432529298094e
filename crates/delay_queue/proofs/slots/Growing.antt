-- Room for more slots.
use Rattle.std.proofs.Common.{◌≡◌, ⊎_elim, ℕ, ◌+◌, ◌-◌, ◌<◌, ◌≤◌, List, ◌++◌, Option, None, replicate, take, length, get_or, refl, sym, ap, ◌∙◌, arith, length-append}
use Rattle.std.specs.Prelude.{slice_get}
use Rattle.std.proofs.lemmas.Bool.{cases_lt}
use Rattle.std.proofs.lemmas.List.{get_or_append_left, get_or-append_right, get_or-replicate, length-replicate, append-nil, take_all}
use Rattle.delay_queue.specs.slots.Entries.{Key, Seen}
use Rattle.delay_queue.specs.slots.Queues.{key_in, with_slots}
use Rattle.delay_queue.specs.slots.own.Heaps.{entry_at, IsPlaced, key_if_of, key_in_heap, table}
use Rattle.delay_queue.proofs.slots.Keys.{key_apart, key_past}
use Rattle.delay_queue.proofs.slots.Tables.{length-table, key_in-table, table_is}

-- what is noted for the slots that were there
old_place : (places : List ℕ) (n slot : ℕ) → slot < length places → get_or (places ++ replicate n 0) slot 0 ≡ get_or places slot 0
old_place places n slot known = get_or_append_left places (replicate n 0) 0 slot known

-- and for the new ones
new_place : (places : List ℕ) (n slot : ℕ) → length places ≤ slot → slot < length places + n → get_or (places ++ replicate n 0) slot 0 ≡ 0
new_place places n slot past within =
    get_or-append_right places (replicate n 0) (length places) slot 0 refl past ∙ get_or-replicate n (slot - length places) 0 0 (omega (arith, past, within))

-- the places of the entries are noted as before
pub placed_grown : (heap : List Seen) (places : List ℕ) (n : ℕ) → IsPlaced heap places → IsPlaced heap (places ++ replicate n 0)
placed_grown heap places n p =
    record {
      known = λ k short. omega (arith, p.known k short, length-append places (replicate n 0));
      noted = λ k short. old_place places n (entry_at heap k).slot (p.known k short) ∙ p.noted k short;
    }

-- a new slot has no entry
none_new : (heap : List Seen) (places : List ℕ) (n slot : ℕ) → IsPlaced heap places → length places ≤ slot → slot < length places + n → key_in_heap heap (places ++ replicate n 0) slot ≡ None
none_new heap places n slot p past within =
    ⊎_elim
    (λ (some : 0 < length heap). key_apart heap (places ++ replicate n 0) slot 0 (entry_at heap 0) (new_place places n slot past within) some refl (λ same. omega (arith, p.known 0 some, same, past)))
    (λ (none : length heap ≤ 0). key_past heap (places ++ replicate n 0) slot 0 (new_place places n slot past within) none)
    (cases_lt 0 (length heap))

-- the table with room for more slots
pub table_grown : (heap : List Seen) (places : List ℕ) (queue : List (Option Key)) (n slots : ℕ) → table heap places ≡ queue → IsPlaced heap places → slots ≡ length places + n
    → table heap (places ++ replicate n 0) ≡ with_slots queue slots
table_grown heap places queue n slots view p all =
    let more : List ℕ = places ++ replicate n 0 in
    let tail : List (Option Key) = replicate (slots - length queue) None in
    let size : length queue ≡ length places = ap length (sym view) ∙ length-table heap places in
    let long : length more ≡ length places + n = omega (arith, length-append places (replicate n 0), length-replicate {A = ℕ} n 0) in
    let whole : length (queue ++ tail) ≡ length more = omega (arith, length-append queue tail, length-replicate {A = Option Key} (slots - length queue) None, size, long, all) in
    table_is heap more (queue ++ tail) whole
    (λ slot short. ⊎_elim
    (λ (known : slot < length places).
    get_or_append_left queue tail None slot (omega (arith, known, size)) ∙ ap (λ (l : List (Option Key)). key_in l slot) (sym view) ∙ key_in-table heap places slot known
    ∙ ap (λ (k : ℕ). key_if_of (slice_get heap k) slot) (sym (old_place places n slot known)))
    (λ (past : length places ≤ slot).
    get_or-append_right queue tail (length queue) slot None refl (omega (arith, past, size))
    ∙ get_or-replicate (slots - length queue) (slot - length queue) None None (omega (arith, short, long, past, size, all))
    ∙ sym (none_new heap places n slot p past (omega (arith, short, long))))
    (cases_lt slot (length places)))

-- where there is room for so many it stays
pub none_grown : (queue : List (Option Key)) (slots : ℕ) → slots ≤ length queue → queue ≡ with_slots queue slots
none_grown queue slots few =
    let none : slots - length queue ≡ 0 = omega (arith, few) in
    sym (ap (λ (n : ℕ). queue ++ replicate n None) none ∙ append-nil queue)

-- how many slots there is room for
pub slots_of : (heap : List Seen) (places : List ℕ) (queue : List (Option Key)) → table heap places ≡ queue → length queue ≡ length places
slots_of heap places queue view = ap length (sym view) ∙ length-table heap places

-- the table once the places were filled up
pub table_filled : (heap : List Seen) (places more : List ℕ) (queue : List (Option Key)) (slots size : ℕ) → table heap places ≡ queue → IsPlaced heap places → size ≡ length places → size ≤ slots
    → more ≡ take slots places ++ replicate (slots - size) 0 → table heap more ≡ with_slots queue slots
table_filled heap places more queue slots size view p all longer is =
    ap (table heap) (is ∙ ap (λ (l : List ℕ). l ++ replicate (slots - size) 0) (take_all slots places (omega (arith, all, longer))))
    ∙ table_grown heap places queue (slots - size) slots view p (omega (arith, all, longer))
