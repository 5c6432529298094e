-- The entry has room, comes last, and rises.
use Rattle.std.proofs.Common.{◌≡◌, ℕ, min, ◌+◌, ◌<◌, ◌≤◌, length, None, Option, arith, List, [], ◌∷◌, ◌++◌, sym, ap, subst, subst₂, ◌∙◌, length-append}
use Rattle.std.proofs.lemmas.List.{map-append}
use Rattle.delay_queue.specs.slots.Entries.{Key, Seen, seen, seen_all}
use Rattle.delay_queue.specs.slots.Queues.{Queue, key_in, entry_count}
use Rattle.delay_queue.specs.Touches.{greatest_count}
use Rattle.delay_queue.specs.slots.own.Heaps.{IsHeap, IsPlaced, table}
use Rattle.delay_queue.specs.slots.own.Heaps.{level, IsHeapAround, IsPlacedWith}
use Rattle.delay_queue.specs.declared.slots.entry.Entry.{Entry}
use Rattle.delay_queue.proofs.slots.Digits.{level_within}
use Rattle.delay_queue.proofs.slots.Holes.{around_pushed}
use Rattle.delay_queue.proofs.slots.Lookups.{seen_long, lent_back}
use Rattle.delay_queue.proofs.slots.Tables.{length-table}
use Rattle.delay_queue.proofs.slots.Counts.{count_placed, room_left, some_risen}
use Rattle.delay_queue.proofs.slots.Calls.{entries_of, beside_pushed, inserted_lent}
use Rattle.delay_queue.proofs.slots.Places.{placed_from_beside}
use Rattle.delay_queue.proofs.slots.queue.SlotQueue.insert.Goals as goal

pub push_reserved-requires : goal.push_reserved-requires
push_reserved-requires g c =
    let rank = g.R.Rank.rank in
    let q = c.self.inside in
    let x = c.args.entry in
    let all = seen_all rank q.heap.items in
    let view : table all q.places.items ≡ c.args.self.now.entries = ap entries_of c.self.view_is in
    let known : x.slot < length q.places.items = omega (arith, c.requires.known, ap length view, length-table all q.places.items) in
    let none : key_in (table all q.places.items) x.slot ≡ None = ap (λ (l : List (Option Key)). key_in l x.slot) view ∙ c.requires.absent in
    omega (arith, room_left all q.places.items x.slot c.self.invariant.placed known none, seen_long rank q.heap.items, c.self.invariant.roomy, q.heap.ok.0)

pub rise-touches-requires-clause-few : goal.rise-touches-requires-clause-few
rise-touches-requires-clause-few g c =
    let rank = g.R.Rank.rank in
    let q = c.self.inside in
    let x = c.args.entry in
    let all = seen_all rank q.heap.items in
    let view : table all q.places.items ≡ c.args.self.now.entries = ap entries_of c.self.view_is in
    let known : x.slot < length q.places.items = omega (arith, c.requires.known, ap length view, length-table all q.places.items) in
    let none : key_in (table all q.places.items) x.slot ≡ None = ap (λ (l : List (Option Key)). key_in l x.slot) view ∙ c.requires.absent in
    omega (
      arith,
      room_left all q.places.items x.slot c.self.invariant.placed known none,
      seen_long rank q.heap.items,
      c.self.invariant.few,
      ap length c.deref_mut.ensures.value,
      ap length c.push_reserved.ensures.items,
      length-append q.heap.items (x ∷ []),
    )

pub rise-touches-requires-clause-placed : goal.rise-touches-requires-clause-placed
rise-touches-requires-clause-placed g c =
    let rank = g.R.Rank.rank in
    let q = c.self.inside in
    let x = c.args.entry in
    let all = seen_all rank q.heap.items in
    let view : table all q.places.items ≡ c.args.self.now.entries = ap entries_of c.self.view_is in
    let known : x.slot < length q.places.items = omega (arith, c.requires.known, ap length view, length-table all q.places.items) in
    let y = seen rank x in
    let whole = ap (seen_all rank) (c.deref_mut.ensures.value ∙ c.push_reserved.ensures.items) ∙ map-append (seen rank) q.heap.items (x ∷ []) in
    let place : c.len-place.result ≡ length all = omega (arith, c.len-place.ensures, q.heap.ok.0, seen_long rank q.heap.items) in
    let here : IsPlacedWith (all ++ y ∷ []) q.places.items (length all) y =
    placed_from_beside (all ++ y ∷ []) q.places.items (length all) y (omega (arith, length-append all (y ∷ [])))
    (beside_pushed all q.places.items c.args.self.now.entries y view c.self.invariant.placed known c.requires.absent) in
    subst (λ (n : ℕ). IsPlacedWith (seen_all rank c.deref_mut.result.now) c.deref_mut-2.result.now n y) (sym place)
    (subst₂ (λ (l : List Seen) (k : List ℕ). IsPlacedWith l k (length all) y) (sym whole) (sym c.deref_mut-2.ensures.value) here)

pub returns-clause-inserted : goal.returns-clause-inserted
returns-clause-inserted g c =
    let q = c.self.inside in
    let v = c.push_reserved.new.self in
    let r = c.rise-touches in
    inserted_lent g.R.Rank.rank q.heap.items v.items c.deref_mut.result.now r.new.heap q.places.items c.deref_mut-2.result.now r.new.places c.args.self.now.entries c.args.entry c.len-place.result v.len
    q.places.len (ap entries_of c.self.view_is) c.self.invariant.placed c.requires.known c.push_reserved.ensures.items c.deref_mut.ensures.value c.deref_mut-2.ensures.value
    (omega (arith, c.len-place.ensures, q.heap.ok.0)) v.ok.0 q.places.ok.0 r.ensures.heap_length r.ensures.places_length r.ensures.keys

pub returns-clause-touched : goal.returns-clause-touched
returns-clause-touched g c =
    let rank = g.R.Rank.rank in
    let q = c.self.inside in
    let size : c.len-place.result ≡ entry_count c.args.self.now.entries =
    omega (
      arith,
      ap entry_count (ap entries_of c.self.view_is),
      count_placed (seen_all rank q.heap.items) q.places.items c.self.invariant.placed,
      seen_long rank q.heap.items,
      c.len-place.ensures,
      q.heap.ok.0,
    ) in
    record {
      times = c.rise-touches.result;
      many = some_risen (entry_count c.args.self.now.entries) c.rise-touches.result (subst (λ (n : ℕ). 0 < n → 0 < c.rise-touches.result) size c.rise-touches.ensures.many);
      few = omega (
        arith,
        subst (λ (n : ℕ). c.rise-touches.result ≤ level n) size c.rise-touches.ensures.few,
        level_within (entry_count c.args.self.now.entries) (entry_count c.args.self.now.entries) (omega arith),
      );
      counted = c.count.ensures ∙ ap (λ (v : Queue). min (v.touched + c.rise-touches.result) greatest_count) c.self.view_is;
    }

pub rise-touches-requires-clause-around : goal.rise-touches-requires-clause-around
rise-touches-requires-clause-around g c =
    let rank = g.R.Rank.rank in
    let q = c.self.inside in
    let all = seen_all rank q.heap.items in
    let y = seen rank c.args.entry in
    let whole = ap (seen_all rank) (c.deref_mut.ensures.value ∙ c.push_reserved.ensures.items) ∙ map-append (seen rank) q.heap.items (c.args.entry ∷ []) in
    let place : c.len-place.result ≡ length all = omega (arith, c.len-place.ensures, q.heap.ok.0, seen_long rank q.heap.items) in
    subst₂ IsHeapAround (sym whole) (sym place) (around_pushed all y c.self.invariant.heap)

pub invariant_of-self : goal.invariant_of-self
invariant_of-self g c =
    let rank = g.R.Rank.rank in
    let q = c.self.inside in
    let v = c.push_reserved.new.self in
    let r = c.rise-touches in
    let back = lent_back v.items c.deref_mut.result.now r.new.heap v.len c.deref_mut.ensures.value v.ok.0 r.ensures.heap_length in
    let back' = lent_back q.places.items c.deref_mut-2.result.now r.new.places q.places.len c.deref_mut-2.ensures.value q.places.ok.0 r.ensures.places_length in
    let size : length r.new.places ≡ length q.places.items = r.ensures.places_length ∙ ap length c.deref_mut-2.ensures.value in
    record {
      heap = subst (λ (l : List (Entry _)). IsHeap (seen_all rank l)) (sym back) r.ensures.heap;
      placed = subst₂ (λ (l : List (Entry _)) (k : List ℕ). IsPlaced (seen_all rank l) k) (sym back) (sym back') r.ensures.placed;
      few = omega (arith, ap length back', size, c.self.invariant.few);
      roomy = omega (arith, ap length back', size, c.self.invariant.roomy, c.push_reserved.ensures.capacity);
    }
