-- What a call of the queue does to its table, and what it finds there.
use Rattle.std.proofs.Common.{◌≡◌, ◌≢◌, inl, inr, ⊎_elim, ℕ, ◌+◌, ◌<◌, ◌≤◌, true, List, [], ◌∷◌, ◌++◌, Option, Some, None, set, take, drop, length, get_or, refl, sym, ap, subst, subst₂, ◌∙◌, arith, length-append}
use Rattle.std.specs.Prelude.{slice_get, IfSome, IfNone}
use Rattle.std.proofs.lemmas.Bool.{false≢true, cases_eq, cases_lt}
use Rattle.std.proofs.lemmas.List.{get_or_append_left, map-append, set-get_or}
use Rattle.std.proofs.lemmas.Option.{same_Some, none-some}
use Rattle.delay_queue.specs.slots.Queues.{Queue, key_in, IsLeast, IsEmpty, NoneIsDue}
use Rattle.delay_queue.specs.slots.own.Heaps.{no_entry, entry_at, IsHeap, IsPlaced, key_in_heap, table}
use Rattle.delay_queue.specs.slots.own.Heaps.{key_with}
use Rattle.delay_queue.specs.slots.Entries.{Key, Seen, key_of, seen, seen_all, comes_before}
use Rattle.delay_queue.specs.declared.slots.entry.Entry.{Entry}
use Rattle.delay_queue.proofs.slots.Order.{before_from_ordered, due_from_ordered}
use Rattle.delay_queue.proofs.slots.Holes.{first_is_least}
use Rattle.delay_queue.proofs.slots.Keys.{key_here, key_past, key_alike, key_found, IsFound}
use Rattle.delay_queue.proofs.slots.Places.{IsPlacedBeside, key_in_hole, key_not_in_hole, key_away}
use Rattle.delay_queue.proofs.slots.Lookups.{seen_long, lent_back}
use Rattle.delay_queue.proofs.slots.Tables.{length-table, key_in-table, key_in-past, table_set}

-- the entries of a queue
abbrev pub entries_of : Queue → List (Option Key)
entries_of q = q.entries

-- the entry of a slot that the table has
pub found : (heap : List Seen) (places : List ℕ) (queue : List (Option Key)) (slot : ℕ) (key : Key) → table heap places ≡ queue → key_in queue slot ≡ Some key
    → IsFound heap places slot key (get_or places slot 0)
found heap places queue slot key view there =
    let read : key_in (table heap places) slot ≡ Some key = ap (λ (l : List (Option Key)). key_in l slot) view ∙ there in
    ⊎_elim
    (λ (known : slot < length places). key_found heap places slot key (sym (key_in-table heap places slot known) ∙ read))
    (λ (past : length places ≤ slot). absurd (none-some key (sym (key_in-past heap places slot past) ∙ read)))
    (cases_lt slot (length places))

-- what the table has of the slot of an entry
pub key_at : (heap : List Seen) (places : List ℕ) (queue : List (Option Key)) (k : ℕ) → table heap places ≡ queue → IsPlaced heap places → k < length heap
    → key_in queue (entry_at heap k).slot ≡ Some (key_of (entry_at heap k))
key_at heap places queue k view p inside =
    let e : Seen = entry_at heap k in
    ap (λ (l : List (Option Key)). key_in l e.slot) (sym view) ∙ key_in-table heap places e.slot (p.known k inside) ∙ key_here heap places e.slot k e (p.noted k inside) inside refl refl

-- the first entry is the least
pub least : (heap : List Seen) (places : List ℕ) (queue : List (Option Key)) → table heap places ≡ queue → IsHeap heap → IsPlaced heap places → 0 < length heap
    → IsLeast queue (key_of (entry_at heap 0)) (entry_at heap 0).slot
least heap places queue view is p some =
    let first : Seen = entry_at heap 0 in
    record {
      there = key_at heap places queue 0 view p some;
      least = λ j other there. ⊎_elim
          (λ (same : j ≡ first.slot). inl same)
          (λ (apart : j ≢ first.slot).
          let f = found heap places queue j other view there in
          let e : Seen = entry_at heap (get_or places j 0) in
          inr (subst₂ (λ (key : Key) (slot : ℕ). comes_before (key_of first) first.slot key slot ≡ true) f.same f.own
          (before_from_ordered first e (λ eq. apart (sym (eq ∙ f.own))) (first_is_least heap (get_or places j 0) (get_or places j 0) (omega arith) f.inside is))))
          (cases_eq j first.slot);
    }

-- the least entry is the first
pub least_place : (heap : List Seen) (places : List ℕ) (queue : List (Option Key)) (k : ℕ) (key : Key) → table heap places ≡ queue → IsHeap heap → IsPlaced heap places → k < length heap
    → IsLeast queue key (entry_at heap k).slot → k ≡ 0
least_place heap places queue k key view is p inside h =
    let first : Seen = entry_at heap 0 in
    let e : Seen = entry_at heap k in
    let same : key ≡ key_of e = same_Some key (key_of e) (sym h.there ∙ key_at heap places queue k view p inside) in
    ⊎_elim
    (λ (one : first.slot ≡ e.slot). sym (p.noted k inside) ∙ ap (λ (n : ℕ). get_or places n 0) (sym one) ∙ p.noted 0 (omega (arith, inside)))
    (λ (before : comes_before key e.slot (key_of first) first.slot ≡ true).
    absurd (false≢true (sym (first_is_least heap k k (omega arith) inside is) ∙ subst (λ (x : Key). comes_before x e.slot (key_of first) first.slot ≡ true) same before)))
    (h.least first.slot (key_of first) (key_at heap places queue 0 view p (omega (arith, inside))))

-- the first entry is due after `now`, and so is each
pub none_due : (heap : List Seen) (places : List ℕ) (queue : List (Option Key)) (now : ℕ) → table heap places ≡ queue → IsHeap heap → now < (entry_at heap 0).due → NoneIsDue queue now
none_due heap places queue now view is late j key there =
    let f = found heap places queue j key view there in
    let k : ℕ = get_or places j 0 in
    let le = due_from_ordered (entry_at heap 0) (entry_at heap k) (first_is_least heap k k (omega arith) f.inside is) in
    omega (arith, late, le, ap (λ (x : Key). x.due) f.same)

-- without an entry the table has none
pub empty : (heap : List Seen) (places : List ℕ) (queue : List (Option Key)) → table heap places ≡ queue → length heap ≡ 0 → IsEmpty queue
empty heap places queue view none j key there = let f = found heap places queue j key view there in omega (arith, none, f.inside)

-- a slot without an entry
pub nothing_there : (queue : List (Option Key)) (slot : ℕ) → key_in queue slot ≡ None → queue ≡ set queue slot None
nothing_there queue slot h = sym (ap (λ (o : Option Key). set queue slot o) (sym h) ∙ set-get_or queue slot None)

-- an entry that was taken out
pub removed : (heap heap' : List Seen) (places places' : List ℕ) (queue : List (Option Key)) (k : ℕ) → table heap places ≡ queue → IsPlaced heap places → k < length heap
    → length places' ≡ length places → key_in_heap heap' places' (entry_at heap k).slot ≡ None
    → ((slot : ℕ) → slot ≢ (entry_at heap k).slot → key_in_heap heap' places' slot ≡ key_in_heap heap places slot) → table heap' places' ≡ set queue (entry_at heap k).slot None
removed heap heap' places places' queue k view p inside size taken others = table_set heap heap' places places' queue (entry_at heap k).slot None view size (p.known k inside) taken others

-- a new entry at the end of the heap, beside the others
pub beside_pushed : (heap : List Seen) (places : List ℕ) (queue : List (Option Key)) (x : Seen) → table heap places ≡ queue → IsPlaced heap places → x.slot < length places
    → key_in queue x.slot ≡ None → IsPlacedBeside (heap ++ x ∷ []) places (length heap) x
beside_pushed heap places queue x view p known absent =
    let after : List Seen = heap ++ x ∷ [] in
    let len : length after ≡ length heap + 1 = length-append heap (x ∷ []) in
    let same : (k : ℕ) → k < length heap → entry_at after k ≡ entry_at heap k = λ k short. get_or_append_left heap (x ∷ []) no_entry k short in
    record {
      fits = known;
      known = λ k short off. subst (λ (e : Seen). e.slot < length places) (sym (same k (omega arith))) (p.known k (omega arith));
      noted = λ k short off. ap (λ (e : Seen). get_or places e.slot 0) (same k (omega arith)) ∙ p.noted k (omega arith);
      apart = λ k short off eq.
          let slot : (entry_at heap k).slot ≡ x.slot = ap (λ (e : Seen). e.slot) (sym (same k (omega arith))) ∙ eq in
          none-some (key_of (entry_at heap k)) (sym absent ∙ ap (λ (n : ℕ). key_in queue n) (sym slot) ∙ key_at heap places queue k view p (omega arith));
    }

-- the keys of the other slots after a push
key_pushed : (heap : List Seen) (places : List ℕ) (x : Seen) (slot : ℕ) → slot ≢ x.slot → key_with (heap ++ x ∷ []) places (length heap) x slot ≡ key_in_heap heap places slot
key_pushed heap places x slot other =
    let after : List Seen = heap ++ x ∷ [] in
    let len : length after ≡ length heap + 1 = length-append heap (x ∷ []) in
    let k : ℕ = get_or places slot 0 in
    ⊎_elim
    (λ (at_end : k ≡ length heap). key_not_in_hole after places (length heap) x slot (omega arith) other at_end ∙ sym (key_past heap places slot k refl (omega arith)))
    (λ (off : k ≢ length heap). key_away after places (length heap) x slot other off
    ∙ ⊎_elim
    (λ (inside : k < length heap). key_alike after heap places places slot k refl refl (omega arith) inside (get_or_append_left heap (x ∷ []) no_entry k inside))
    (λ (past : length heap ≤ k). key_past after places slot k refl (omega arith) ∙ sym (key_past heap places slot k refl past))
    (cases_lt k (length heap)))
    (cases_eq k (length heap))

-- an entry that was put in
pub inserted : (heap pushed heap' : List Seen) (places places' : List ℕ) (queue : List (Option Key)) (x : Seen) (n : ℕ) → table heap places ≡ queue → IsPlaced heap places
    → x.slot < length places → pushed ≡ heap ++ x ∷ [] → n ≡ length heap → length places' ≡ length places
    → ((slot : ℕ) → key_in_heap heap' places' slot ≡ key_with pushed places n x slot) → table heap' places' ≡ set queue x.slot (Some (key_of x))
inserted heap pushed heap' places places' queue x n view p known is size same keys =
    let after : List Seen = heap ++ x ∷ [] in
    let len : length after ≡ length heap + 1 = length-append heap (x ∷ []) in
    let all : (slot : ℕ) → key_in_heap heap' places' slot ≡ key_with after places (length heap) x slot = λ slot.
    keys slot ∙ ap (λ (l : List Seen). key_with l places n x slot) is ∙ ap (λ (k : ℕ). key_with after places k x slot) size in
    table_set heap heap' places places' queue x.slot (Some (key_of x)) view same known (all x.slot ∙ key_in_hole after places (length heap) x (omega arith) known)
    (λ slot other. all slot ∙ key_pushed heap places x slot other)

-- the same by the lists that were lent
pub inserted_lent : {X : Type 0} (rank : X → ℕ) (heap pushed lent heap' : List (Entry X)) (places lent' places' : List ℕ) (queue : List (Option Key)) (x : Entry X) (n size count : ℕ)
    → table (seen_all rank heap) places ≡ queue → IsPlaced (seen_all rank heap) places → x.slot < length queue → pushed ≡ heap ++ x ∷ [] → lent ≡ pushed → lent' ≡ places → n ≡ length heap
    → size ≡ length pushed → count ≡ length places → length heap' ≡ length lent → length places' ≡ length lent'
    → ((slot : ℕ) → key_in_heap (seen_all rank heap') places' slot ≡ key_with (seen_all rank lent) lent' n (seen rank x) slot)
    → table (seen_all rank (take size (heap' ++ drop (length heap') pushed))) (take count (places' ++ drop (length places') places)) ≡ set queue x.slot (Some (key_of (seen rank x)))
inserted_lent rank heap pushed lent heap' places lent' places' queue x n size count view p known is whole all here long many short few keys =
    let y : Seen = seen rank x in
    ap (λ (l : List (Entry _)). table (seen_all rank l) (take count (places' ++ drop (length places') places))) (lent_back pushed lent heap' size whole long short)
    ∙ ap (λ (l : List ℕ). table (seen_all rank heap') l) (lent_back places lent' places' count all many few)
    ∙ inserted (seen_all rank heap) (seen_all rank pushed) (seen_all rank heap') places places' queue y n view p
    (omega (arith, known, ap length view, length-table (seen_all rank heap) places)) (ap (seen_all rank) is ∙ map-append (seen rank) heap (x ∷ [])) (here ∙ sym (seen_long rank heap)) (few ∙ ap length all)
    (λ slot. keys slot ∙ ap (λ (l : List (Entry _)). key_with (seen_all rank l) lent' n y slot) whole ∙ ap (λ (k : List ℕ). key_with (seen_all rank pushed) k n y slot) all)

-- an entry that was taken out, by the lists that were lent
pub removed_lent : (heap heap' : List Seen) (places lent' places' : List ℕ) (queue : List (Option Key)) (k count : ℕ) → table heap places ≡ queue → IsPlaced heap places → k < length heap
    → lent' ≡ places → count ≡ length places → length places' ≡ length lent' → key_in_heap heap' places' (entry_at heap k).slot ≡ None
    → ((slot : ℕ) → slot ≢ (entry_at heap k).slot → key_in_heap heap' places' slot ≡ key_in_heap heap lent' slot)
    → table heap' (take count (places' ++ drop (length places') places)) ≡ set queue (entry_at heap k).slot None
removed_lent heap heap' places lent' places' queue k count view p inside all many few taken others =
    ap (λ (l : List ℕ). table heap' l) (lent_back places lent' places' count all many few)
    ∙ removed heap heap' places places' queue k view p inside (few ∙ ap length all) taken (λ slot other. others slot other ∙ ap (λ (l : List ℕ). key_in_heap heap l slot) all)

-- what holds of the first entry, where there is one
pub if_first : {X : Type 0} (heap : List X) (o : Option X) (P : X → Type 0) → o ≡ slice_get heap 0 → ((x : X) → Some x ≡ slice_get heap 0 → P x) → IfSome o P
if_first [] o P is h = subst (λ x. IfSome x P) (sym is) tt
if_first (e ∷ heap) o P is h = subst (λ x. IfSome x P) (sym is) (h e refl)

-- what holds where there is none
pub if_empty : {X : Type 0} (heap : List X) (o : Option X) (P : Type 0) → o ≡ slice_get heap 0 → (length heap ≡ 0 → P) → IfNone o P
if_empty [] o P is h = subst (λ x. IfNone x P) (sym is) (h refl)
if_empty (e ∷ heap) o P is h = subst (λ x. IfNone x P) (sym is) tt

-- what was read first
pub first_read : {X : Type 0} (rank : X → ℕ) (heap lent : List (Entry X)) (e : Entry X) → lent ≡ heap → Some e ≡ slice_get lent 0
    → (0 < length (seen_all rank heap)) × (entry_at (seen_all rank heap) 0 ≡ seen rank e)
first_read rank [] lent e same read = absurd (none-some e (sym (read ∙ ap (λ (l : List (Entry _)). slice_get l 0) same)))
first_read rank (x ∷ heap) lent e same read =
    (omega arith, ap (seen rank) (sym (same_Some e x (read ∙ ap (λ (l : List (Entry _)). slice_get l 0) same))))

-- nothing was read first
pub nothing_first : {X : Type 0} (rank : X → ℕ) (heap lent : List (Entry X)) → lent ≡ heap → None ≡ slice_get lent 0 → length (seen_all rank heap) ≡ 0
nothing_first rank [] lent same read = refl
nothing_first rank (x ∷ heap) lent same read = absurd (none-some x (read ∙ ap (λ (l : List (Entry _)). slice_get l 0) same))

-- the slot whose place was found has that entry
pub place_found : (heap : List Seen) (places : List ℕ) (queue : List (Option Key)) (slot k : ℕ) → table heap places ≡ queue → IsPlaced heap places
    → (k < length heap) × ((entry_at heap k).slot ≡ slot) → (k < length heap) × ((entry_at heap k).slot ≡ slot) × (key_in queue slot ≡ Some (key_of (entry_at heap k)))
place_found heap places queue slot k view p h =
    (h.0, h.1, subst (λ (n : ℕ). key_in queue n ≡ Some (key_of (entry_at heap k))) h.1 (key_at heap places queue k view p h.0))

-- a slot whose place was not found has none
pub place_missing : (heap : List Seen) (places : List ℕ) (queue : List (Option Key)) (slot : ℕ) → table heap places ≡ queue
    → (slot < length places → key_in_heap heap places slot ≡ None) → key_in queue slot ≡ None
place_missing heap places queue slot view none =
    ap (λ (l : List (Option Key)). key_in l slot) (sym view)
    ∙ ⊎_elim (λ (known : slot < length places). key_in-table heap places slot known ∙ none known) (λ (past : length places ≤ slot). key_in-past heap places slot past) (cases_lt slot (length places))

-- the same two by the lists that were lent
pub found_lent : {X : Type 0} (rank : X → ℕ) (heap lent : List (Entry X)) (places : List ℕ) (queue : List (Option Key)) (slot k : ℕ) → table (seen_all rank heap) places ≡ queue
    → IsPlaced (seen_all rank heap) places → lent ≡ heap → (k < length (seen_all rank lent)) × ((entry_at (seen_all rank lent) k).slot ≡ slot)
    → (k < length (seen_all rank heap)) × ((entry_at (seen_all rank heap) k).slot ≡ slot) × (key_in queue slot ≡ Some (key_of (entry_at (seen_all rank heap) k)))
found_lent rank heap lent places queue slot k view p same h =
    place_found (seen_all rank heap) places queue slot k view p (subst (λ (l : List (Entry _)). (k < length (seen_all rank l)) × ((entry_at (seen_all rank l) k).slot ≡ slot)) same h)

pub missing_lent : {X : Type 0} (rank : X → ℕ) (heap lent : List (Entry X)) (places lent' : List ℕ) (queue : List (Option Key)) (slot : ℕ) → table (seen_all rank heap) places ≡ queue → lent ≡ heap
    → lent' ≡ places → (slot < length lent' → key_in_heap (seen_all rank lent) lent' slot ≡ None) → key_in queue slot ≡ None
missing_lent rank heap lent places lent' queue slot view same all none =
    place_missing (seen_all rank heap) places queue slot view
    (subst₂ (λ (l : List (Entry _)) (k : List ℕ). slot < length k → key_in_heap (seen_all rank l) k slot ≡ None) same all none)
