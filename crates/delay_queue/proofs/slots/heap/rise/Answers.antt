-- The hole rises by one place, and the end of the loop.
use Rattle.std.proofs.Common.{ℕ, ◌+◌, ◌-◌, ◌*◌, ◌/◌, ◌<◌, List, length, set, arith, ap, subst, sym, ◌∙◌, refl}
use Rattle.delay_queue.specs.slots.Entries.{Seen, seen, seen_all, is_before}
use Rattle.delay_queue.specs.slots.own.Heaps.{entry_at, parent, IsInHeapOrder, IsHeap, key_in_heap}
use Rattle.delay_queue.specs.slots.own.Heaps.{IsHeapAround, IsAboveChildren}
use Rattle.delay_queue.proofs.slots.Digits.{digits_within, level_below, level_some}
use Rattle.delay_queue.proofs.slots.Lookups.{seen_long}
use Rattle.delay_queue.proofs.slots.Order.{ordered_from_before}
use Rattle.delay_queue.proofs.slots.Holes.{around_up, above_up, heap_filled}
use Rattle.delay_queue.proofs.slots.Places.{beside, moves_on}
use Rattle.delay_queue.proofs.slots.heap.rise.Goals as goal
use Rattle.delay_queue.proofs.slots.heap.rise.Goals.{else-loop-hole-test, then-loop-hole-test+then-is_before}

pub overflow_add-touches : goal.overflow_add-touches
overflow_add-touches g c =
    omega (arith, digits_within (3 * c.args.hole + 1) 64 (omega (arith, c.requires.inside, c.requires.few)), c.loop-hole.invariant.count)

pub overflow_add-touches-in-loop-hole : goal.overflow_add-touches-in-loop-hole
overflow_add-touches-in-loop-hole g c =
    omega (arith, digits_within (3 * c.args.hole + 1) 64 (omega (arith, c.requires.inside, c.requires.few)), c.loop-hole.invariant.count)

pub loop-hole-preserved : goal.loop-hole-preserved
loop-hole-preserved g c =
    let rank = g.R.Rank.rank in
    let h = seen_all rank c.loop-hole.heap in
    let x = seen rank c.args.entry in
    let i = c.loop-hole.hole in
    let up = (i - 1) / 4 in
    let all = seen_long rank c.loop-hole.heap in
    let below : 0 < i = omega (arith, c.loop-hole-test.true) in
    let inside : i < length h = omega (arith, c.loop-hole.invariant.inside, all) in
    let after = c.put.ensures.heap ∙ ap (λ (e : Seen). set h i e) c.at-above.ensures in
    let noted = c.put.ensures.places ∙ ap (λ (e : Seen). set c.loop-hole.places e.slot i) c.at-above.ensures in
    let order : IsInHeapOrder x (entry_at h up) = ap (λ (e : Seen). is_before e x) (sym c.at-above.ensures) ∙ sym c.is_before.ensures ∙ c.if-is_before.false in
    let begun : c.args.hole < length (seen_all rank c.args.heap.now) = omega (arith, c.requires.inside, seen_long rank c.args.heap.now) in
    record {
      inside = omega (arith, c.put.ensures.heap_length, c.loop-hole.invariant.inside);
      long = c.put.ensures.heap_length ∙ c.loop-hole.invariant.long;
      around = subst (λ (l : List Seen). IsHeapAround l up) (sym after) (around_up h i up inside below refl c.loop-hole.invariant.around);
      above = subst (λ (l : List Seen). IsAboveChildren l up x) (sym after) (above_up h i up x inside below refl c.loop-hole.invariant.around order);
      moves = moves_on (seen_all rank c.args.heap.now) c.args.places.now c.args.hole h c.loop-hole.places i up (seen_all rank c.put.new.heap) c.put.new.places c.loop-hole.invariant.moves
          begun (omega arith) (λ same. omega arith) after noted;
      some = λ _. omega arith;
      count = omega (arith, c.loop-hole.invariant.count, level_below i up below refl);
    }

pub put-requires-2-clause-known : goal.put-requires-2-clause-known
put-requires-2-clause-known g c =
    let rank = g.R.Rank.rank in
    let begun : c.args.hole < length (seen_all rank c.args.heap.now) = omega (arith, c.requires.inside, seen_long rank c.args.heap.now) in
    (beside (seen_all rank c.loop-hole.heap) c.loop-hole.places c.loop-hole.hole (seen rank c.args.entry) (omega (arith, c.loop-hole.invariant.inside, seen_long rank c.loop-hole.heap))
    (c.loop-hole.invariant.moves.placed (seen rank c.args.entry) begun c.requires.placed)).fits

pub returns-clause-heap : goal.returns-clause-heap
returns-clause-heap g c =
    let rank = g.R.Rank.rank in
    let h = seen_all rank c.loop-hole.heap in
    let x = seen rank c.args.entry in
    let i = c.loop-hole.hole in
    let last : 0 < i → IsInHeapOrder (entry_at h (parent i)) x =
    elim c.loop-hole-test.branch [
      | else-loop-hole-test w ↦ λ some. absurd (omega arith)
      | then-loop-hole-test+then-is_before w ↦ λ some. ordered_from_before (entry_at h (parent i)) x (ap (λ (e : Seen). is_before e x) (sym w.at-above.ensures) ∙ sym w.is_before.ensures ∙ w.if-is_before.true)
    ]
    in
    subst IsHeap (sym c.put-2.ensures.heap) (heap_filled h i x (omega (arith, c.loop-hole.invariant.inside, seen_long rank c.loop-hole.heap)) c.loop-hole.invariant.around c.loop-hole.invariant.above last)

pub returns-clause-many : goal.returns-clause-many
returns-clause-many g c low =
    elim c.loop-hole-test.branch [
      | else-loop-hole-test w ↦ omega (arith, w.touches-is, c.loop-hole.invariant.some (omega arith))
      | then-loop-hole-test+then-is_before w ↦ omega (arith, w.touches-is)
    ]

pub returns-clause-few : goal.returns-clause-few
returns-clause-few g c =
    elim c.loop-hole-test.branch [
      | else-loop-hole-test w ↦ omega (arith, w.touches-is, c.loop-hole.invariant.count)
      | then-loop-hole-test+then-is_before w ↦ omega (arith, w.touches-is, c.loop-hole.invariant.count, level_some c.loop-hole.hole)
    ]

pub returns-clause-keys : goal.returns-clause-keys
returns-clause-keys g c slot =
    let rank = g.R.Rank.rank in
    let x = seen rank c.args.entry in
    let full = set (seen_all rank c.loop-hole.heap) c.loop-hole.hole x in
    let begun : c.args.hole < length (seen_all rank c.args.heap.now) = omega (arith, c.requires.inside, seen_long rank c.args.heap.now) in
    ap (λ (l : List Seen). key_in_heap l c.put-2.new.places slot) c.put-2.ensures.heap ∙ ap (λ (l : List ℕ). key_in_heap full l slot) c.put-2.ensures.places
    ∙ c.loop-hole.invariant.moves.keys x begun c.requires.placed slot
