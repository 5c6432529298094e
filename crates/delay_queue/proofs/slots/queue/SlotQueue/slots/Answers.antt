-- The table has as many places as are noted.
use Rattle.std.proofs.Common.{ap, arith}
use Rattle.delay_queue.specs.slots.Entries.{seen_all}
use Rattle.delay_queue.proofs.slots.Calls.{entries_of}
use Rattle.delay_queue.proofs.slots.Growing.{slots_of}
use Rattle.delay_queue.proofs.slots.queue.SlotQueue.slots.Goals as goal

pub returns : goal.returns
returns g c =
    let q = c.self.inside in
    omega (arith, c.len.ensures, q.places.ok.0, slots_of (seen_all g.R.Rank.rank q.heap.items) q.places.items c.args.self.now.entries (ap entries_of c.self.view_is))
