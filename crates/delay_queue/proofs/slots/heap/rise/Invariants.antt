-- The hole rises: the entry that is put into it would stand above those below it.
use Rattle.std.proofs.Common.{◌≡◌, ◌+◌, ◌<◌, ◌≤◌, length}
use Rattle.delay_queue.specs.slots.Entries.{seen, seen_all}
use Rattle.delay_queue.specs.slots.own.Heaps.{level, IsHeapAround, IsAboveChildren, MovesHole}
use Rattle.delay_queue.proofs.slots.heap.rise.Given as goal

abbrev pub invariant-loop-hole : goal.invariant-loop-hole
invariant-loop-hole g l =
    let rank = g.R.Rank.rank in
    record {
      inside : l.hole < length l.heap;
      long : length l.heap ≡ length l.fn.heap;
      around : IsHeapAround (seen_all rank l.heap) l.hole;
      above : IsAboveChildren (seen_all rank l.heap) l.hole (seen rank l.entry);
      moves : MovesHole (seen_all rank l.fn.heap) l.fn.places l.fn.hole (seen_all rank l.heap) l.places l.hole;
      some : l.hole < l.fn.hole → 0 < l.touches;
      count : l.touches + level l.hole ≤ level l.fn.hole;
    }

abbrev pub decreases-loop-hole : goal.decreases-loop-hole
decreases-loop-hole g l = l.hole
