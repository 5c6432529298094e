-- The places beside a heap, while entries move into its hole.
use Rattle.std.proofs.Common.{◌≡◌, ◌≢◌, ⊎_elim, ℕ, ◌+◌, ◌<◌, ◌≤◌, List, [], ◌∷◌, ◌++◌, Some, None, set, length, get_or, refl, sym, ap, subst, subst₂, ◌∙◌, arith, length-set, length-append, get_or-set_same, get_or-set_other}
use Rattle.std.proofs.lemmas.Bool.{cases_eq, cases_lt}
use Rattle.std.proofs.lemmas.List.{get_or_append_left, get_or_push}
use Rattle.delay_queue.specs.slots.own.Heaps.{no_entry, entry_at, IsPlaced, key_in_heap}
use Rattle.delay_queue.specs.slots.own.Heaps.{IsPlacedWith, MovesHole, key_with}
use Rattle.delay_queue.specs.slots.Entries.{Seen, key_of}
use Rattle.delay_queue.proofs.slots.Lookups.{at_same, at_other}
use Rattle.delay_queue.proofs.slots.Keys.{key_here, key_apart, key_past, key_alike}

-- the places of the entries beside the hole, and the slot of an entry that may be put into it
pub record IsPlacedBeside (heap : List Seen) (places : List ℕ) (hole : ℕ) (x : Seen) : Type 0 where
  pub fits : x.slot < length places
  pub known : (k : ℕ) → k < length heap → k ≢ hole → (entry_at heap k).slot < length places
  pub noted : (k : ℕ) → k < length heap → k ≢ hole → get_or places (entry_at heap k).slot 0 ≡ k
  pub apart : (k : ℕ) → k < length heap → k ≢ hole → (entry_at heap k).slot ≢ x.slot

-- what the filled heap says of the entries beside the hole
pub beside : (heap : List Seen) (places : List ℕ) (hole : ℕ) (x : Seen) → hole < length heap → IsPlacedWith heap places hole x → IsPlacedBeside heap places hole x
beside heap places hole x inside w =
    let full : List Seen = set heap hole x in
    let all : List ℕ = set places x.slot hole in
    let len : length full ≡ length heap = length-set heap hole x in
    let size : length all ≡ length places = length-set places x.slot hole in
    let here : entry_at full hole ≡ x = at_same heap hole x inside in
    let fits : x.slot < length places = subst₂ (λ (e : Seen) (n : ℕ). e.slot < n) here size (w.known hole (omega arith)) in
    let apart : (k : ℕ) → k < length heap → k ≢ hole → (entry_at heap k).slot ≢ x.slot = λ k short other same.
    other (sym (w.noted k (omega arith)) ∙ ap (λ (e : Seen). get_or all e.slot 0) (at_other heap hole k x other) ∙ ap (λ (n : ℕ). get_or all n 0) same ∙ get_or-set_same places x.slot hole 0 fits) in
    record {
      fits = fits;
      apart = apart;
      known = λ k short other. subst₂ (λ (e : Seen) (n : ℕ). e.slot < n) (at_other heap hole k x other) size (w.known k (omega arith));
      noted = λ k short other. sym (get_or-set_other places x.slot (entry_at heap k).slot hole 0 (apart k short other))
          ∙ ap (λ (e : Seen). get_or all e.slot 0) (sym (at_other heap hole k x other)) ∙ w.noted k (omega arith);
    }

-- and the other way round
pub placed_from_beside : (heap : List Seen) (places : List ℕ) (hole : ℕ) (x : Seen) → hole < length heap → IsPlacedBeside heap places hole x → IsPlacedWith heap places hole x
placed_from_beside heap places hole x inside b =
    let full : List Seen = set heap hole x in
    let all : List ℕ = set places x.slot hole in
    let len : length full ≡ length heap = length-set heap hole x in
    let size : length all ≡ length places = length-set places x.slot hole in
    let here : entry_at full hole ≡ x = at_same heap hole x inside in
    record {
      known = λ k short. ⊎_elim
          (λ (moved : k ≡ hole). subst₂ (λ (e : Seen) (n : ℕ). e.slot < n) (sym here ∙ ap (entry_at full) (sym moved)) (sym size) b.fits)
          (λ (other : k ≢ hole). subst₂ (λ (e : Seen) (n : ℕ). e.slot < n) (sym (at_other heap hole k x other)) (sym size) (b.known k (omega arith) other))
          (cases_eq k hole);
      noted = λ k short. ⊎_elim
          (λ (moved : k ≡ hole). ap (λ (e : Seen). get_or all e.slot 0) (ap (entry_at full) moved ∙ here) ∙ get_or-set_same places x.slot hole 0 b.fits ∙ sym moved)
          (λ (other : k ≢ hole). ap (λ (e : Seen). get_or all e.slot 0) (at_other heap hole k x other)
          ∙ get_or-set_other places x.slot (entry_at heap k).slot hole 0 (b.apart k (omega arith) other) ∙ b.noted k (omega arith) other)
          (cases_eq k hole);
    }

-- another entry moves into the hole
beside_moved : (heap : List Seen) (places : List ℕ) (hole from : ℕ) (x : Seen) → hole < length heap → from < length heap → from ≢ hole → IsPlacedBeside heap places hole x
    → IsPlacedBeside (set heap hole (entry_at heap from)) (set places (entry_at heap from).slot hole) from x
beside_moved heap places hole from x inside short away b =
    let e : Seen = entry_at heap from in
    let after : List Seen = set heap hole e in
    let all : List ℕ = set places e.slot hole in
    let len : length after ≡ length heap = length-set heap hole e in
    let size : length all ≡ length places = length-set places e.slot hole in
    let here : entry_at after hole ≡ e = at_same heap hole e inside in
    record {
      fits = subst (λ (n : ℕ). x.slot < n) (sym size) b.fits;
      known = λ k low off. ⊎_elim
          (λ (moved : k ≡ hole). subst₂ (λ (f : Seen) (n : ℕ). f.slot < n) (sym here ∙ ap (entry_at after) (sym moved)) (sym size) (b.known from short away))
          (λ (other : k ≢ hole). subst₂ (λ (f : Seen) (n : ℕ). f.slot < n) (sym (at_other heap hole k e other)) (sym size) (b.known k (omega arith) other))
          (cases_eq k hole);
      noted = λ k low off. ⊎_elim
          (λ (moved : k ≡ hole). ap (λ (f : Seen). get_or all f.slot 0) (ap (entry_at after) moved ∙ here) ∙ get_or-set_same places e.slot hole 0 (b.known from short away) ∙ sym moved)
          (λ (other : k ≢ hole).
          let apart : (entry_at heap k).slot ≢ e.slot = λ same. off (sym (b.noted k (omega arith) other) ∙ ap (λ (n : ℕ). get_or places n 0) same ∙ b.noted from short away) in
          ap (λ (f : Seen). get_or all f.slot 0) (at_other heap hole k e other) ∙ get_or-set_other places e.slot (entry_at heap k).slot hole 0 apart ∙ b.noted k (omega arith) other)
          (cases_eq k hole);
      apart = λ k low off. ⊎_elim
          (λ (moved : k ≡ hole). subst (λ (f : Seen). f.slot ≢ x.slot) (sym here ∙ ap (entry_at after) (sym moved)) (b.apart from short away))
          (λ (other : k ≢ hole). subst (λ (f : Seen). f.slot ≢ x.slot) (sym (at_other heap hole k e other)) (b.apart k (omega arith) other))
          (cases_eq k hole);
    }

-- the slot of the entry in the hole
pub key_in_hole : (heap : List Seen) (places : List ℕ) (hole : ℕ) (x : Seen) → hole < length heap → x.slot < length places → key_with heap places hole x x.slot ≡ Some (key_of x)
key_in_hole heap places hole x inside fits =
    let len : length (set heap hole x) ≡ length heap = length-set heap hole x in
    key_here (set heap hole x) (set places x.slot hole) x.slot hole x (get_or-set_same places x.slot hole 0 fits) (omega arith) (at_same heap hole x inside) refl

-- the slot of an entry beside the hole
pub key_beside_hole : (heap : List Seen) (places : List ℕ) (hole : ℕ) (x : Seen) (k : ℕ) → k < length heap → k ≢ hole → IsPlacedBeside heap places hole x
    → key_with heap places hole x (entry_at heap k).slot ≡ Some (key_of (entry_at heap k))
key_beside_hole heap places hole x k inside other b =
    let len : length (set heap hole x) ≡ length heap = length-set heap hole x in
    key_here (set heap hole x) (set places x.slot hole) (entry_at heap k).slot k (entry_at heap k)
    (get_or-set_other places x.slot (entry_at heap k).slot hole 0 (b.apart k inside other) ∙ b.noted k inside other) (omega arith) (at_other heap hole k x other) refl

-- a slot for which the hole is noted, and which is not that of the entry in it
pub key_not_in_hole : (heap : List Seen) (places : List ℕ) (hole : ℕ) (x : Seen) (slot : ℕ) → hole < length heap → slot ≢ x.slot → get_or places slot 0 ≡ hole
    → key_with heap places hole x slot ≡ None
key_not_in_hole heap places hole x slot inside apart noted =
    let len : length (set heap hole x) ≡ length heap = length-set heap hole x in
    key_apart (set heap hole x) (set places x.slot hole) slot hole x (get_or-set_other places x.slot slot hole 0 apart ∙ noted) (omega arith) (at_same heap hole x inside) (λ same. apart (sym same))

-- a slot for which another place is noted
pub key_away : (heap : List Seen) (places : List ℕ) (hole : ℕ) (x : Seen) (slot : ℕ) → slot ≢ x.slot → get_or places slot 0 ≢ hole → key_with heap places hole x slot ≡ key_in_heap heap places slot
key_away heap places hole x slot apart away =
    let k : ℕ = get_or places slot 0 in
    let len : length (set heap hole x) ≡ length heap = length-set heap hole x in
    let noted : get_or (set places x.slot hole) slot 0 ≡ k = get_or-set_other places x.slot slot hole 0 apart in
    ⊎_elim
    (λ (inside : k < length heap). key_alike (set heap hole x) heap (set places x.slot hole) places slot k noted refl (omega arith) inside (at_other heap hole k x away))
    (λ (past : length heap ≤ k). key_past (set heap hole x) (set places x.slot hole) slot k noted (omega arith) ∙ sym (key_past heap places slot k refl past))
    (cases_lt k (length heap))

key_moved : (heap : List Seen) (places : List ℕ) (hole from : ℕ) (x : Seen) → hole < length heap → from < length heap → from ≢ hole → IsPlacedBeside heap places hole x → (slot : ℕ)
    → key_with (set heap hole (entry_at heap from)) (set places (entry_at heap from).slot hole) from x slot ≡ key_with heap places hole x slot
key_moved heap places hole from x inside short away b slot =
    let e : Seen = entry_at heap from in
    let after : List Seen = set heap hole e in
    let all : List ℕ = set places e.slot hole in
    let len : length after ≡ length heap = length-set heap hole e in
    let size : length all ≡ length places = length-set places e.slot hole in
    let next = beside_moved heap places hole from x inside short away b in
    let here : entry_at after hole ≡ e = at_same heap hole e inside in
    ⊎_elim
    (λ (own : slot ≡ x.slot). ap (key_with after all from x) own ∙ key_in_hole after all from x (omega arith) next.fits
    ∙ sym (key_in_hole heap places hole x inside b.fits) ∙ ap (key_with heap places hole x) (sym own))
    (λ (other : slot ≢ x.slot). ⊎_elim
    (λ (moved : slot ≡ e.slot).
    let left : key_with after all from x (entry_at after hole).slot ≡ Some (key_of (entry_at after hole)) = key_beside_hole after all from x hole (omega arith) (λ same. away (sym same)) next in
    ap (key_with after all from x) moved ∙ subst (λ (f : Seen). key_with after all from x f.slot ≡ Some (key_of f)) here left
    ∙ sym (key_beside_hole heap places hole x from short away b) ∙ ap (key_with heap places hole x) (sym moved))
    (λ (still : slot ≢ e.slot).
    let k : ℕ = get_or places slot 0 in
    let noted : get_or all slot 0 ≡ k = get_or-set_other places e.slot slot hole 0 still in
    ⊎_elim
    (λ (at_hole : k ≡ hole). key_away after all from x slot other (λ same. away (sym same ∙ noted ∙ at_hole))
    ∙ key_apart after all slot hole e (noted ∙ at_hole) (omega arith) here (λ same. still (sym same))
    ∙ sym (key_not_in_hole heap places hole x slot inside other at_hole))
    (λ (off : k ≢ hole). ⊎_elim
    (λ (at_from : k ≡ from). key_not_in_hole after all from x slot (omega arith) other (noted ∙ at_from)
    ∙ sym (key_away heap places hole x slot other off ∙ key_apart heap places slot from e at_from short refl (λ same. still (sym same))))
    (λ (far : k ≢ from). key_away after all from x slot other (λ same. far (sym noted ∙ same))
    ∙ key_away heap places hole e slot still off ∙ sym (key_away heap places hole x slot other off))
    (cases_eq k from))
    (cases_eq k hole))
    (cases_eq slot e.slot))
    (cases_eq slot x.slot)

-- the hole stays where it is
pub moves_none : (heap : List Seen) (places : List ℕ) (hole : ℕ) → MovesHole heap places hole heap places hole
moves_none heap places hole =
    record { heap_length = refl; places_length = refl; inside = λ h. h; placed = λ e inside w. w; keys = λ e inside w slot. refl }

-- the hole moves on: the entry at the next place is put into it
pub moves_on : (heap : List Seen) (places : List ℕ) (hole : ℕ) (heap' : List Seen) (places' : List ℕ) (hole' from : ℕ) (after : List Seen) (all : List ℕ)
    → MovesHole heap places hole heap' places' hole' → hole < length heap → from < length heap' → from ≢ hole' → after ≡ set heap' hole' (entry_at heap' from)
    → all ≡ set places' (entry_at heap' from).slot hole' → MovesHole heap places hole after all from
moves_on heap places hole heap' places' hole' from after all m inside short away written noted =
    let e : Seen = entry_at heap' from in
    let begun : hole' < length heap' = omega (arith, m.inside inside, m.heap_length) in
    let step : (f : Seen) → IsPlacedWith heap places hole f → IsPlacedBeside heap' places' hole' f = λ f w. beside heap' places' hole' f begun (m.placed f inside w) in
    let len : length (set heap' hole' e) ≡ length heap' = length-set heap' hole' e in
    subst₂ (λ (l : List Seen) (n : List ℕ). MovesHole heap places hole l n from) (sym written) (sym noted) (
    record {
      heap_length = len ∙ m.heap_length;
      places_length = length-set places' e.slot hole' ∙ m.places_length;
      inside = λ h. omega (arith, short, len);
      placed = λ f low w. placed_from_beside (set heap' hole' e) (set places' e.slot hole') from f (omega (arith, short, len)) (beside_moved heap' places' hole' from f begun short away (step f w));
      keys = λ f low w slot. key_moved heap' places' hole' from f begun short away (step f w) slot ∙ m.keys f inside w slot;
    })

-- the last entry of a heap may be put at a place before it
pub beside_cut : (front : List Seen) (places : List ℕ) (place : ℕ) (last : Seen) → place < length front → IsPlaced (front ++ last ∷ []) places → IsPlacedBeside front places place last
beside_cut front places place last inside p =
    let heap : List Seen = front ++ last ∷ [] in
    let len : length heap ≡ length front + 1 = length-append front (last ∷ []) in
    let at_end : entry_at heap (length front) ≡ last = get_or_push front last no_entry (length front) refl in
    let at_front : (k : ℕ) → k < length front → entry_at heap k ≡ entry_at front k = λ k short. get_or_append_left front (last ∷ []) no_entry k short in
    let end_noted : get_or places last.slot 0 ≡ length front = ap (λ (e : Seen). get_or places e.slot 0) (sym at_end) ∙ p.noted (length front) (omega arith) in
    let noted : (k : ℕ) → k < length front → get_or places (entry_at front k).slot 0 ≡ k = λ k short.
    ap (λ (e : Seen). get_or places e.slot 0) (sym (at_front k short)) ∙ p.noted k (omega arith) in
    record {
      fits = subst (λ (e : Seen). e.slot < length places) at_end (p.known (length front) (omega arith));
      known = λ k short off. subst (λ (e : Seen). e.slot < length places) (at_front k short) (p.known k (omega arith));
      noted = λ k short off. noted k short;
      apart = λ k short off same.
          let eq : k ≡ length front = sym (noted k short) ∙ ap (λ (n : ℕ). get_or places n 0) same ∙ end_noted in
          omega arith;
    }

-- the first entries of a heap, without the last
pub placed_front : (front : List Seen) (places : List ℕ) (last : Seen) → IsPlaced (front ++ last ∷ []) places → IsPlaced front places
placed_front front places last p =
    let heap : List Seen = front ++ last ∷ [] in
    let len : length heap ≡ length front + 1 = length-append front (last ∷ []) in
    let at_front : (k : ℕ) → k < length front → entry_at heap k ≡ entry_at front k = λ k short. get_or_append_left front (last ∷ []) no_entry k short in
    record {
      known = λ k short. subst (λ (e : Seen). e.slot < length places) (at_front k short) (p.known k (omega arith));
      noted = λ k short. ap (λ (e : Seen). get_or places e.slot 0) (sym (at_front k short)) ∙ p.noted k (omega arith);
    }

-- the place that is noted for the last entry
pub noted_last : (front : List Seen) (places : List ℕ) (last : Seen) → IsPlaced (front ++ last ∷ []) places → get_or places last.slot 0 ≡ length front
noted_last front places last p =
    let len : length (front ++ last ∷ []) ≡ length front + 1 = length-append front (last ∷ []) in
    ap (λ (e : Seen). get_or places e.slot 0) (sym (get_or_push front last no_entry (length front) refl)) ∙ p.noted (length front) (omega arith)

-- without the last entry its slot has none
pub key_of_last : (front : List Seen) (places : List ℕ) (last : Seen) → IsPlaced (front ++ last ∷ []) places → key_in_heap front places last.slot ≡ None
key_of_last front places last p = key_past front places last.slot (length front) (noted_last front places last p) (omega arith)

-- without the last entry the others have theirs as before
pub key_of_front : (front : List Seen) (places : List ℕ) (last : Seen) (slot : ℕ) → IsPlaced (front ++ last ∷ []) places → slot ≢ last.slot
    → key_in_heap front places slot ≡ key_in_heap (front ++ last ∷ []) places slot
key_of_front front places last slot p other =
    let heap : List Seen = front ++ last ∷ [] in
    let k : ℕ = get_or places slot 0 in
    let len : length heap ≡ length front + 1 = length-append front (last ∷ []) in
    ⊎_elim
    (λ (inside : k < length front). key_alike front heap places places slot k refl refl inside (omega arith) (sym (get_or_append_left front (last ∷ []) no_entry k inside)))
    (λ (past : length front ≤ k). key_past front places slot k refl past
    ∙ sym (⊎_elim
    (λ (at_end : k ≡ length front). key_apart heap places slot (length front) last at_end (omega arith) (get_or_push front last no_entry (length front) refl) (λ same. other (sym same)))
    (λ (off : k ≢ length front). key_past heap places slot k refl (omega arith))
    (cases_eq k (length front))))
    (cases_lt k (length front))

-- the last entry put at a place before it: the slot of that place's entry has none
pub key_of_cut : (front : List Seen) (places : List ℕ) (place : ℕ) (last : Seen) → place < length front → IsPlaced (front ++ last ∷ []) places
    → key_with front places place last (entry_at front place).slot ≡ None
key_of_cut front places place last inside p =
    let heap : List Seen = front ++ last ∷ [] in
    let f = placed_front front places last p in
    let noted : get_or places (entry_at front place).slot 0 ≡ place = f.noted place inside in
    key_not_in_hole front places place last (entry_at front place).slot inside (λ same. omega (arith, inside, sym noted ∙ ap (λ (n : ℕ). get_or places n 0) same ∙ noted_last front places last p)) noted

-- and the others have theirs as before
pub key_of_kept : (front : List Seen) (places : List ℕ) (place : ℕ) (last : Seen) (slot : ℕ) → place < length front → IsPlaced (front ++ last ∷ []) places
    → slot ≢ (entry_at front place).slot → key_with front places place last slot ≡ key_in_heap (front ++ last ∷ []) places slot
key_of_kept front places place last slot inside p other =
    let heap : List Seen = front ++ last ∷ [] in
    let b = beside_cut front places place last inside p in
    let len : length heap ≡ length front + 1 = length-append front (last ∷ []) in
    ⊎_elim
    (λ (own : slot ≡ last.slot). ap (key_with front places place last) own ∙ key_in_hole front places place last inside b.fits
    ∙ sym (key_here heap places slot (length front) last (ap (λ (n : ℕ). get_or places n 0) own ∙ noted_last front places last p) (omega arith)
    (get_or_push front last no_entry (length front) refl) (sym own)))
    (λ (far : slot ≢ last.slot).
    let k : ℕ = get_or places slot 0 in
    ⊎_elim
    (λ (at_place : k ≡ place). key_not_in_hole front places place last slot inside far at_place
    ∙ sym (key_apart front places slot place (entry_at front place) at_place inside refl (λ same. other (sym same))) ∙ key_of_front front places last slot p far)
    (λ (off : k ≢ place). key_away front places place last slot far off ∙ key_of_front front places last slot p far)
    (cases_eq k place))
    (cases_eq slot last.slot)
