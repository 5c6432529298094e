-- How many entries there are.
use Rattle.std.proofs.Common.{◌≡◌, ⊎_elim, ℕ, zero, suc, ◌+◌, ◌-◌, ◌<◌, ◌≤◌, cond, List, [], ◌∷◌, ◌++◌, Option, Some, None, is_some, set, take, replicate, length, get_or, refl, sym, ap, subst, ◌∙◌, min, arith, count_by, length-set, length-append}
use Rattle.std.specs.List.{sum_by}
use Rattle.std.proofs.lemmas.Bool.{cases_lt}
use Rattle.std.proofs.lemmas.List.{take_more, take_all, get_or_push}
use Rattle.std.proofs.lemmas.List.Sums.{sum_by-set, count_by-le-length}
use Rattle.delay_queue.specs.slots.Queues.{key_in, entry_count}
use Rattle.delay_queue.specs.slots.own.Heaps.{no_entry, entry_at, IsPlaced, key_in_heap, table}
use Rattle.delay_queue.specs.slots.Entries.{Key, Seen, key_of}
use Rattle.delay_queue.proofs.slots.Keys.{key_here}
use Rattle.delay_queue.proofs.slots.Places.{placed_front, noted_last, key_of_last, key_of_front}
use Rattle.delay_queue.proofs.slots.Tables.{length-table, key_in-table, table_set, table_empty}

abbrev one : Option Key → ℕ
one o = cond (is_some o) 1 0

-- an entry of a slot that had none makes one more
pub count_more : (queue : List (Option Key)) (slot : ℕ) (key : Key) → slot < length queue → key_in queue slot ≡ None → entry_count (set queue slot (Some key)) ≡ entry_count queue + 1
count_more queue slot key within none =
    let all : sum_by one (set queue slot (Some key)) + one (get_or queue slot None) ≡ sum_by one queue + 1 = sum_by-set one queue slot (Some key) None within in
    let here : one (get_or queue slot None) ≡ 0 = ap one none in
    omega arith

count_none : (n : ℕ) → count_by is_some (replicate {A = Option Key} n None) ≡ 0
count_none zero = refl
count_none (suc n) = count_none n

-- a heap with one more entry has one more in its table
count_push : (front : List Seen) (places : List ℕ) (last : Seen) → IsPlaced (front ++ last ∷ []) places → entry_count (table (front ++ last ∷ []) places) ≡ entry_count (table front places) + 1
count_push front places last p =
    let heap : List Seen = front ++ last ∷ [] in
    let at_end : entry_at heap (length front) ≡ last = get_or_push front last no_entry (length front) refl in
    let size : length front < length heap = omega (arith, length-append front (last ∷ [])) in
    let known : last.slot < length places = subst (λ (e : Seen). e.slot < length places) at_end (p.known (length front) size) in
    let here : key_in_heap heap places last.slot ≡ Some (key_of last) = key_here heap places last.slot (length front) last (noted_last front places last p) size at_end refl in
    let put : table heap places ≡ set (table front places) last.slot (Some (key_of last)) =
    table_set front heap places places (table front places) last.slot (Some (key_of last)) refl refl known here (λ k other. sym (key_of_front front places last k p other)) in
    let none : key_in (table front places) last.slot ≡ None = key_in-table front places last.slot known ∙ key_of_last front places last p in
    ap entry_count put ∙ count_more (table front places) last.slot (key_of last) (omega (arith, known, length-table front places)) none

count_front : (heap : List Seen) (places : List ℕ) (n : ℕ) → n ≤ length heap → IsPlaced (take n heap) places → entry_count (table (take n heap) places) ≡ n
count_front heap places zero short p = ap entry_count (table_empty places) ∙ count_none (length places)
count_front heap places (suc n) short p =
    let next : n + 1 ≡ suc n = omega arith in
    let cut : take (suc n) heap ≡ take n heap ++ entry_at heap n ∷ [] = subst (λ (k : ℕ). take k heap ≡ take n heap ++ entry_at heap n ∷ []) next (take_more heap n no_entry (omega arith)) in
    let q : IsPlaced (take n heap ++ entry_at heap n ∷ []) places = subst (λ (l : List Seen). IsPlaced l places) cut p in
    let rest : entry_count (table (take n heap) places) ≡ n = count_front heap places n (omega arith) (placed_front (take n heap) places (entry_at heap n) q) in
    let all = ap (λ (l : List Seen). entry_count (table l places)) cut ∙ count_push (take n heap) places (entry_at heap n) q in
    omega (arith, all, rest)

-- the table has as many entries as the heap
pub count_placed : (heap : List Seen) (places : List ℕ) → IsPlaced heap places → entry_count (table heap places) ≡ length heap
count_placed heap places p =
    let whole : take (length heap) heap ≡ heap = take_all (length heap) heap (omega arith) in
    subst (λ (l : List Seen). entry_count (table l places) ≡ length heap) whole
    (count_front heap places (length heap) (omega arith) (subst (λ (l : List Seen). IsPlaced l places) (sym whole) p))

-- there are no more entries than slots
pub count_within : (heap : List Seen) (places : List ℕ) → IsPlaced heap places → length heap ≤ length places
count_within heap places p = omega (arith, count_placed heap places p, count_by-le-length is_some (table heap places), length-table heap places)

-- while a slot has no entry, there are fewer entries than slots
pub room_left : (heap : List Seen) (places : List ℕ) (slot : ℕ) → IsPlaced heap places → slot < length places → key_in (table heap places) slot ≡ None → length heap < length places
room_left heap places slot p known none =
    let key : Key = record { due = 0; rank = 0 } in
    let queue : List (Option Key) = table heap places in
    let size : length queue ≡ length places = length-table heap places in
    let more : entry_count (set queue slot (Some key)) ≡ entry_count queue + 1 = count_more queue slot key (omega arith) none in
    let most : entry_count (set queue slot (Some key)) ≤ length (set queue slot (Some key)) = count_by-le-length is_some (set queue slot (Some key)) in
    let same : length (set queue slot (Some key)) ≡ length queue = length-set queue slot (Some key) in
    let all : entry_count queue ≡ length heap = count_placed heap places p in
    omega arith

-- where another entry is left, it moves
pub some_touched : (count times : ℕ) → (0 + 1 < count → 0 < times) → min 1 (count - 1) ≤ times
some_touched count times h = ⊎_elim (λ (more : 1 < count). omega (arith, h (omega arith))) (λ (few : count ≤ 1). omega (arith, few)) (cases_lt 1 count)

-- where there is an entry, one that comes touches it
pub some_risen : (count times : ℕ) → (0 < count → 0 < times) → min 1 count ≤ times
some_risen count times h = ⊎_elim (λ (more : 0 < count). omega (arith, h more)) (λ (none : count ≤ 0). omega (arith, none)) (cases_lt 0 count)
