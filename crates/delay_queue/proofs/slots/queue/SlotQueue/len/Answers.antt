-- The heap has as many entries as the table.
use Rattle.std.proofs.Common.{ap, sym, arith}
use Rattle.delay_queue.specs.slots.Entries.{seen_all}
use Rattle.delay_queue.specs.slots.Queues.{Queue, entry_count}
use Rattle.delay_queue.proofs.slots.Counts.{count_placed}
use Rattle.delay_queue.proofs.slots.Lookups.{seen_long}
use Rattle.delay_queue.proofs.slots.queue.SlotQueue.len.Goals as goal

pub returns : goal.returns
returns g c =
    let rank = g.R.Rank.rank in
    let q = c.self.inside in
    omega (
      arith,
      ap (λ (q : Queue). entry_count q.entries) (sym c.self.view_is),
      count_placed (seen_all rank q.heap.items) q.places.items c.self.invariant.placed,
      seen_long rank q.heap.items,
      c.len.ensures,
      q.heap.ok.0,
    )
