-- A heap without its last entry, which comes into the place of the one that is taken out.
use Rattle.std.proofs.Common.{◌≡◌, ◌≢◌, ℕ, ◌+◌, ◌<◌, length, arith, List, [], ◌∷◌, ◌++◌, None, sym, ap, subst, subst₂, ◌∙◌, length-append}
use Rattle.std.proofs.lemmas.List.{get_or_append_left, get_or_push}
use Rattle.delay_queue.specs.slots.Entries.{Seen}
use Rattle.delay_queue.specs.slots.own.Heaps.{no_entry, entry_at, parent, IsInHeapOrder, IsHeap, IsPlaced, key_in_heap}
use Rattle.delay_queue.specs.slots.own.Heaps.{IsHeapAround, IsPlacedWith, key_with}
use Rattle.delay_queue.proofs.slots.Holes.{around_any}
use Rattle.delay_queue.proofs.slots.Places.{beside_cut, placed_from_beside, placed_front, key_of_last, key_of_front, key_of_cut, key_of_kept}

-- the first entries are in order
pub heap_front : (heap front : List Seen) (last : Seen) → heap ≡ front ++ last ∷ [] → IsHeap heap → IsHeap front
heap_front heap front last is h =
    let len : length heap ≡ length front + 1 = ap length is ∙ length-append front (last ∷ []) in
    let same : (k : ℕ) → k < length front → entry_at heap k ≡ entry_at front k = λ k short.
    ap (λ (l : List Seen). entry_at l k) is ∙ get_or_append_left front (last ∷ []) no_entry k short in
    record { ordered = λ k some short. subst₂ IsInHeapOrder (same (parent k) (omega (arith, some, short))) (same k short) (h.ordered k some (omega (arith, short, len))) }

-- what is so of a heap whose last entry was taken out
pub record IsWithoutLast (heap front : List Seen) (places : List ℕ) (place : ℕ) : Type 0 where
  pub ordered : IsHeap front
  pub placed : IsPlaced front places
  pub taken : key_in_heap front places (entry_at heap place).slot ≡ None
  pub others : (slot : ℕ) → slot ≢ (entry_at heap place).slot → key_in_heap front places slot ≡ key_in_heap heap places slot

pub without_last : (heap front : List Seen) (last : Seen) (places : List ℕ) (place : ℕ) → heap ≡ front ++ last ∷ [] → place ≡ length front → IsHeap heap → IsPlaced heap places
    → IsWithoutLast heap front places place
without_last heap front last places place is at_end h p =
    let q : IsPlaced (front ++ last ∷ []) places = subst (λ (l : List Seen). IsPlaced l places) is p in
    let there : entry_at heap place ≡ last = ap (λ (l : List Seen). entry_at l place) is ∙ get_or_push front last no_entry place (sym at_end) in
    record {
      ordered = heap_front heap front last is h;
      placed = placed_front front places last q;
      taken = ap (λ (e : Seen). key_in_heap front places e.slot) there ∙ key_of_last front places last q;
      others = λ slot other.
          key_of_front front places last slot q (λ same. other (same ∙ ap (λ (e : Seen). e.slot) (sym there))) ∙ ap (λ (l : List Seen). key_in_heap l places slot) (sym is);
    }

-- what is so of the rest of a heap whose last entry is to come into a place before it
pub record IsForLast (heap front : List Seen) (last : Seen) (places : List ℕ) (place : ℕ) : Type 0 where
  pub inside : place < length front
  pub around : IsHeapAround front place
  pub placed : IsPlacedWith front places place last
  pub taken : key_with front places place last (entry_at heap place).slot ≡ None
  pub others : (slot : ℕ) → slot ≢ (entry_at heap place).slot → key_with front places place last slot ≡ key_in_heap heap places slot

pub for_last : (heap front : List Seen) (last : Seen) (places : List ℕ) (place : ℕ) → heap ≡ front ++ last ∷ [] → place < length heap → place ≢ length front → IsHeap heap → IsPlaced heap places
    → IsForLast heap front last places place
for_last heap front last places place is short off h p =
    let q : IsPlaced (front ++ last ∷ []) places = subst (λ (l : List Seen). IsPlaced l places) is p in
    let inside : place < length front = omega (arith, short, off, ap length is, length-append front (last ∷ [])) in
    let there : entry_at heap place ≡ entry_at front place = ap (λ (l : List Seen). entry_at l place) is ∙ get_or_append_left front (last ∷ []) no_entry place inside in
    record {
      inside = inside;
      around = around_any front place inside (heap_front heap front last is h);
      placed = placed_from_beside front places place last inside (beside_cut front places place last inside q);
      taken = ap (λ (e : Seen). key_with front places place last e.slot) there ∙ key_of_cut front places place last inside q;
      others = λ slot other.
          key_of_kept front places place last slot inside q (λ same. other (same ∙ ap (λ (e : Seen). e.slot) (sym there))) ∙ ap (λ (l : List Seen). key_in_heap l places slot) (sym is);
    }
