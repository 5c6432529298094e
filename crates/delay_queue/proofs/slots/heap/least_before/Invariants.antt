-- The least so far.
use Rattle.std.proofs.Common.{ℕ, ◌<◌, ◌≤◌}
use Rattle.delay_queue.specs.slots.Entries.{seen_all}
use Rattle.delay_queue.specs.slots.own.Heaps.{entry_at, IsInHeapOrder}
use Rattle.delay_queue.proofs.slots.heap.least_before.Given as goal

abbrev pub invariant-loop-place : goal.invariant-loop-place
invariant-loop-place g l =
    let h = seen_all g.R.Rank.rank l.fn.heap in
    record {
      from : l.first ≤ l.least;
      to : l.least < l.place;
      least : (k : ℕ) → l.first ≤ k → k < l.place → IsInHeapOrder (entry_at h l.least) (entry_at h k);
    }
