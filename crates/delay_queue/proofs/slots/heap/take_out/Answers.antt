-- The last entry comes into the place of the one that is taken out.
use Rattle.std.proofs.Common.{◌≡◌, ◌≢◌, ℕ, ◌+◌, ◌<◌, ◌≤◌, length, arith, List, [], ◌∷◌, ◌++◌, take, drop, sym, ap, subst, ◌∙◌, length-append}
use Rattle.std.proofs.lemmas.List.{map-append}
use Rattle.delay_queue.specs.slots.Entries.{Seen, seen, seen_all}
use Rattle.delay_queue.specs.Touches.{most_touches}
use Rattle.delay_queue.specs.slots.own.Heaps.{entry_at, IsHeap, IsPlaced, key_in_heap}
use Rattle.delay_queue.specs.slots.own.Heaps.{IsHeapAround, IsPlacedWith, key_with}
use Rattle.delay_queue.specs.declared.slots.entry.Entry.{Entry}
use Rattle.delay_queue.proofs.slots.Lookups.{seen_long, lent_back}
use Rattle.delay_queue.proofs.slots.Taken.{without_last, IsForLast, for_last}
use Rattle.delay_queue.proofs.slots.heap.take_out.Goals as goal

-- the heap as contracts see it, and its last entry
whole : {X : Type 0} (rank : X → ℕ) (items front : List (Entry X)) (last : Entry X) → items ≡ front ++ last ∷ [] → seen_all rank items ≡ seen_all rank front ++ seen rank last ∷ []
whole rank items front last is = ap (seen_all rank) is ∙ map-append (seen rank) front (last ∷ [])

pub returns-then-place-len-clause-placed : goal.returns-then-place-len-clause-placed
returns-then-place-len-clause-placed g c =
    let rank = g.R.Rank.rank in
    let v = c.take_last-last.new.self in
    let here : c.args.place ≡ length (seen_all rank v.items) = omega (arith, c.if-place-len.true, c.len.ensures, v.ok.0, seen_long rank v.items) in
    (without_last (seen_all rank c.args.heap.now.items) (seen_all rank v.items) (seen rank c.take_last-last.result) c.args.places.now c.args.place
    (whole rank c.args.heap.now.items v.items c.take_last-last.result c.take_last-last.ensures.items) here c.requires.heap c.requires.placed).placed

pub returns-then-place-len-clause-taken : goal.returns-then-place-len-clause-taken
returns-then-place-len-clause-taken g c =
    let rank = g.R.Rank.rank in
    let v = c.take_last-last.new.self in
    let here : c.args.place ≡ length (seen_all rank v.items) = omega (arith, c.if-place-len.true, c.len.ensures, v.ok.0, seen_long rank v.items) in
    (without_last (seen_all rank c.args.heap.now.items) (seen_all rank v.items) (seen rank c.take_last-last.result) c.args.places.now c.args.place
    (whole rank c.args.heap.now.items v.items c.take_last-last.result c.take_last-last.ensures.items) here c.requires.heap c.requires.placed).taken

pub returns-then-place-len-clause-others : goal.returns-then-place-len-clause-others
returns-then-place-len-clause-others g c =
    let rank = g.R.Rank.rank in
    let v = c.take_last-last.new.self in
    let here : c.args.place ≡ length (seen_all rank v.items) = omega (arith, c.if-place-len.true, c.len.ensures, v.ok.0, seen_long rank v.items) in
    (without_last (seen_all rank c.args.heap.now.items) (seen_all rank v.items) (seen rank c.take_last-last.result) c.args.places.now c.args.place
    (whole rank c.args.heap.now.items v.items c.take_last-last.result c.take_last-last.ensures.items) here c.requires.heap c.requires.placed).others

-- what holds where the entry is not the last one
rest : {X : Type 0} (rank : X → ℕ) (items front : List (Entry X)) (last : Entry X) (places : List ℕ) (place : ℕ) → items ≡ front ++ last ∷ [] → place < length items → place ≢ length front
    → IsHeap (seen_all rank items) → IsPlaced (seen_all rank items) places → IsForLast (seen_all rank items) (seen_all rank front) (seen rank last) places place
rest rank items front last places place is inside off h p =
    for_last (seen_all rank items) (seen_all rank front) (seen rank last) places place (whole rank items front last is) (omega (arith, inside, seen_long rank items))
    (λ same. off (same ∙ seen_long rank front)) h p

pub replace-requires-clause-around : goal.replace-requires-clause-around
replace-requires-clause-around g c =
    let rank = g.R.Rank.rank in
    let v = c.take_last-last.new.self in
    subst (λ (l : List (Entry _)). IsHeapAround (seen_all rank l) c.args.place) (sym c.deref_mut.ensures.value)
    (rest rank c.args.heap.now.items v.items c.take_last-last.result c.args.places.now c.args.place c.take_last-last.ensures.items c.requires.inside
    (λ same. c.if-place-len.false (same ∙ sym v.ok.0 ∙ sym c.len.ensures)) c.requires.heap c.requires.placed).around

pub replace-requires-clause-placed : goal.replace-requires-clause-placed
replace-requires-clause-placed g c =
    let rank = g.R.Rank.rank in
    let v = c.take_last-last.new.self in
    subst (λ (l : List (Entry _)). IsPlacedWith (seen_all rank l) c.args.places.now c.args.place (seen rank c.take_last-last.result)) (sym c.deref_mut.ensures.value)
    (rest rank c.args.heap.now.items v.items c.take_last-last.result c.args.places.now c.args.place c.take_last-last.ensures.items c.requires.inside
    (λ same. c.if-place-len.false (same ∙ sym v.ok.0 ∙ sym c.len.ensures)) c.requires.heap c.requires.placed).placed

-- the key of a slot after the last entry came into the place, by the heap that was lent
key_after : {X : Type 0} (rank : X → ℕ) (front lent heap : List (Entry X)) (places places' : List ℕ) (place n slot : ℕ) (last : Seen) → n ≡ length front → lent ≡ front → length heap ≡ length lent
    → ((slot : ℕ) → key_in_heap (seen_all rank heap) places' slot ≡ key_with (seen_all rank lent) places place last slot)
    → key_in_heap (seen_all rank (take n (heap ++ drop (length heap) front))) places' slot ≡ key_with (seen_all rank front) places place last slot
key_after rank front lent heap places places' place n slot last size same long keys =
    ap (λ (l : List (Entry _)). key_in_heap (seen_all rank l) places' slot) (lent_back front lent heap n same size long)
    ∙ keys slot ∙ ap (λ (l : List (Entry _)). key_with (seen_all rank l) places place last slot) same

pub returns-clause-taken : goal.returns-clause-taken
returns-clause-taken g c =
    let rank = g.R.Rank.rank in
    let v = c.take_last-last.new.self in
    let last = c.take_last-last.result in
    key_after rank v.items c.deref_mut.result.now c.replace.new.heap c.args.places.now c.replace.new.places c.args.place v.len (entry_at (seen_all rank c.args.heap.now.items) c.args.place).slot
    (seen rank last) v.ok.0 c.deref_mut.ensures.value c.replace.ensures.heap_length c.replace.ensures.keys
    ∙ (rest rank c.args.heap.now.items v.items last c.args.places.now c.args.place c.take_last-last.ensures.items c.requires.inside
    (λ same. c.if-place-len.false (same ∙ sym v.ok.0 ∙ sym c.len.ensures)) c.requires.heap c.requires.placed).taken

pub returns-clause-others : goal.returns-clause-others
returns-clause-others g c slot other =
    let rank = g.R.Rank.rank in
    let v = c.take_last-last.new.self in
    let last = c.take_last-last.result in
    key_after rank v.items c.deref_mut.result.now c.replace.new.heap c.args.places.now c.replace.new.places c.args.place v.len slot (seen rank last) v.ok.0 c.deref_mut.ensures.value
    c.replace.ensures.heap_length c.replace.ensures.keys
    ∙ (rest rank c.args.heap.now.items v.items last c.args.places.now c.args.place c.take_last-last.ensures.items c.requires.inside
    (λ same. c.if-place-len.false (same ∙ sym v.ok.0 ∙ sym c.len.ensures)) c.requires.heap c.requires.placed).others slot other

pub returns-clause-few : goal.returns-clause-few
returns-clause-few g c =
    let v = c.take_last-last.new.self in
    let size : length c.deref_mut.result.now + 1 ≡ length c.args.heap.now.items =
    omega (arith, ap length c.deref_mut.ensures.value, ap length c.take_last-last.ensures.items, length-append v.items (c.take_last-last.result ∷ [])) in
    subst (λ (n : ℕ). c.replace.result ≤ most_touches n) size c.replace.ensures.few
