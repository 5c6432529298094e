-- The hole sinks.
use Rattle.std.proofs.Common.{◌≡◌, ◌+◌, ◌-◌, ◌*◌, ◌<◌, ◌≤◌, length}
use Rattle.delay_queue.specs.slots.Entries.{seen_all}
use Rattle.delay_queue.specs.slots.own.Heaps.{level, IsHeapAround, MovesHole}
use Rattle.delay_queue.proofs.slots.heap.sink.Given as goal

abbrev pub invariant-loop-hole : goal.invariant-loop-hole
invariant-loop-hole g l =
    let rank = g.R.Rank.rank in
    record {
      inside : l.hole < length l.heap;
      long : length l.heap ≡ length l.fn.heap;
      around : IsHeapAround (seen_all rank l.heap) l.hole;
      moves : MovesHole (seen_all rank l.fn.heap) l.fn.places l.fn.hole (seen_all rank l.heap) l.places l.hole;
      count : l.touches + 2 * level l.fn.hole ≤ 2 * level l.hole;
    }

abbrev pub decreases-loop-hole : goal.decreases-loop-hole
decreases-loop-hole g l = length l.initial.heap - l.hole
