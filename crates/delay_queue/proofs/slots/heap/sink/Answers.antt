-- The hole sinks by one place, and to one of the last entries below it.
use Rattle.std.proofs.Common.{◌+◌, ◌*◌, ◌<◌, List, length, set, arith, subst, sym, ap, ◌∙◌}
use Rattle.delay_queue.specs.slots.Entries.{Seen, seen_all}
use Rattle.delay_queue.specs.slots.own.Heaps.{IsHeapAround}
use Rattle.delay_queue.proofs.slots.Digits.{digits_within, level_below}
use Rattle.delay_queue.proofs.slots.Lookups.{seen_long}
use Rattle.delay_queue.proofs.slots.Holes.{around_down}
use Rattle.delay_queue.proofs.slots.Places.{beside, moves_on}
use Rattle.delay_queue.proofs.slots.heap.sink.Goals as goal

pub overflow_add-touches : goal.overflow_add-touches
overflow_add-touches g c =
    omega (arith, digits_within (3 * c.loop-hole.hole + 1) 62 (omega (arith, c.loop-hole.invariant.inside, c.requires.few, c.loop-hole.invariant.long)), c.loop-hole.invariant.count)

pub overflow_add-touches-then-first-heap : goal.overflow_add-touches-then-first-heap
overflow_add-touches-then-first-heap g c =
    omega (
      arith,
      digits_within (3 * c.loop-hole.hole + 1) 62 (omega (arith, c.loop-hole.invariant.inside, c.requires.few, c.loop-hole.invariant.long)),
      c.loop-hole.invariant.count,
      c.loop-hole-test.false,
      c.put-then-first-heap.ensures.heap_length,
    )

pub loop-hole-preserved : goal.loop-hole-preserved
loop-hole-preserved g c =
    let rank = g.R.Rank.rank in
    let begin = seen_all rank c.args.heap.now in
    let h = seen_all rank c.loop-hole.heap in
    let i = c.loop-hole.hole in
    let least = c.least_of_four-least in
    let low = least.result in
    let all = seen_long rank c.loop-hole.heap in
    let begun : c.args.hole < length begin = omega (arith, c.requires.inside, seen_long rank c.args.heap.now) in
    let after = c.put.ensures.heap ∙ ap (λ (e : Seen). set h i e) c.at-entry.ensures in
    let noted = c.put.ensures.places ∙ ap (λ (e : Seen). set c.loop-hole.places e.slot i) c.at-entry.ensures in
    record {
      inside = omega (arith, least.ensures.inside, all, c.put.ensures.heap_length);
      long = c.put.ensures.heap_length ∙ c.loop-hole.invariant.long;
      around = subst (λ (l : List Seen). IsHeapAround l low) (sym after)
          (around_down h i low least.ensures.inside least.ensures.below least.ensures.parent_is c.loop-hole.invariant.around least.ensures.least);
      moves = moves_on begin c.args.places.now c.args.hole h c.loop-hole.places i low (seen_all rank c.put.new.heap) c.put.new.places c.loop-hole.invariant.moves
          begun least.ensures.inside (λ same. omega (arith, same, least.ensures.parent_is, least.ensures.below)) after noted;
      count = omega (arith, c.loop-hole.invariant.count, level_below low i least.ensures.below least.ensures.parent_is);
    }

pub put-requires-then-first-heap-clause-known : goal.put-requires-then-first-heap-clause-known
put-requires-then-first-heap-clause-known g c =
    let rank = g.R.Rank.rank in
    let h = seen_all rank c.loop-hole.heap in
    let all = seen_long rank c.loop-hole.heap in
    let least = c.least_before-least in
    let x = c.requires.placed.0 in
    let begun : c.args.hole < length (seen_all rank c.args.heap.now) = omega (arith, c.requires.inside, seen_long rank c.args.heap.now) in
    let w = c.loop-hole.invariant.moves.placed x begun c.requires.placed.1 in
    subst (λ (e : Seen). e.slot < length c.loop-hole.places) (sym c.at-entry-then-first-heap.ensures)
    ((beside h c.loop-hole.places c.loop-hole.hole x (omega (arith, c.loop-hole.invariant.inside, all)) w).known least.result least.ensures.inside
    (λ same. omega (arith, same, least.ensures.parent_is, least.ensures.below)))

pub returns-then-first-heap-clause-moves : goal.returns-then-first-heap-clause-moves
returns-then-first-heap-clause-moves g c =
    let rank = g.R.Rank.rank in
    let begin = seen_all rank c.args.heap.now in
    let h = seen_all rank c.loop-hole.heap in
    let i = c.loop-hole.hole in
    let put = c.put-then-first-heap in
    let least = c.least_before-least in
    let begun : c.args.hole < length begin = omega (arith, c.requires.inside, seen_long rank c.args.heap.now) in
    moves_on begin c.args.places.now c.args.hole h c.loop-hole.places i least.result (seen_all rank put.new.heap) put.new.places c.loop-hole.invariant.moves begun
    least.ensures.inside (λ same. omega (arith, same, least.ensures.parent_is, least.ensures.below)) (put.ensures.heap ∙ ap (λ (e : Seen). set h i e) c.at-entry-then-first-heap.ensures)
    (put.ensures.places ∙ ap (λ (e : Seen). set c.loop-hole.places e.slot i) c.at-entry-then-first-heap.ensures)

pub returns-then-first-heap-clause-around : goal.returns-then-first-heap-clause-around
returns-then-first-heap-clause-around g c =
    let rank = g.R.Rank.rank in
    let h = seen_all rank c.loop-hole.heap in
    let i = c.loop-hole.hole in
    let least = c.least_before-least in
    subst (λ (l : List Seen). IsHeapAround l least.result) (sym (c.put-then-first-heap.ensures.heap ∙ ap (λ (e : Seen). set h i e) c.at-entry-then-first-heap.ensures))
    (around_down h i least.result least.ensures.inside least.ensures.below least.ensures.parent_is c.loop-hole.invariant.around least.ensures.least)

pub returns-then-first-heap-clause-few : goal.returns-then-first-heap-clause-few
returns-then-first-heap-clause-few g c =
    omega (
      arith,
      c.loop-hole.invariant.count,
      c.loop-hole-test.false,
      c.put-then-first-heap.ensures.heap_length,
      level_below c.least_before-least.result c.loop-hole.hole c.least_before-least.ensures.below c.least_before-least.ensures.parent_is,
    )
