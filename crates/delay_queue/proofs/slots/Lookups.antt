-- What is read from a heap after an entry is written.
use Rattle.std.proofs.Common.{◌≡◌, ◌≢◌, ℕ, ◌<◌, ◌++◌, List, set, take, drop, take_at, length, get_or, sym, ap, ◌∙◌, get_or-set_same, get_or-set_other}
use Rattle.std.proofs.lemmas.List.{get_or-map, length-map}
use Rattle.delay_queue.specs.slots.own.Heaps.{no_entry, entry_at}
use Rattle.delay_queue.specs.slots.Entries.{Seen, seen, seen_all}
use Rattle.delay_queue.specs.declared.slots.entry.Entry.{Entry}

-- the entry that was written
pub at_same : (heap : List Seen) (k : ℕ) (e : Seen) → k < length heap → entry_at (set heap k e) k ≡ e
at_same heap k e inside = get_or-set_same heap k e no_entry inside

-- the others
pub at_other : (heap : List Seen) (k j : ℕ) (e : Seen) → j ≢ k → entry_at (set heap k e) j ≡ entry_at heap j
at_other heap k j e apart = get_or-set_other heap k j e no_entry apart

-- an entry that was read
pub seen_read : {X : Type 0} (rank : X → ℕ) (heap : List (Entry X)) (k : ℕ) (e : Entry X) → k < length heap → e ≡ get_or heap k e → seen rank e ≡ entry_at (seen_all rank heap) k
seen_read rank heap k e inside is = ap (seen rank) is ∙ sym (get_or-map (seen rank) heap k e no_entry inside)

-- there are as many entries as contracts see
pub seen_long : {X : Type 0} (rank : X → ℕ) (heap : List (Entry X)) → length (seen_all rank heap) ≡ length heap
seen_long rank heap = length-map heap (seen rank)

-- a list that was lent and came back
pub lent_back : {X : Type 0} (xs lent now : List X) (n : ℕ) → lent ≡ xs → n ≡ length xs → length now ≡ length lent → take n (now ++ drop (length now) xs) ≡ now
lent_back xs lent now n same size long = take_at now (drop (length now) xs) n (long ∙ ap length same ∙ sym size)
