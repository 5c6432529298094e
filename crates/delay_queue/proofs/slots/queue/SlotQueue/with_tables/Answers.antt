-- No slot has an entry yet.
use Rattle.std.proofs.Common.{◌≡◌, length, ap, arith}
use Rattle.delay_queue.specs.slots.Entries.{seen_all}
use Rattle.delay_queue.proofs.slots.Tables.{table_none}
use Rattle.delay_queue.proofs.slots.queue.SlotQueue.with_tables.Goals as goal

pub returns-clause-empty : goal.returns-clause-empty
returns-clause-empty g c =
    let v = c.resize.new.self in
    let size : length v.items ≡ c.args.slots = omega (arith, v.ok.0, c.in_ok-resize.ensures.len) in
    table_none (seen_all g.R.Rank.rank c.in_ok-heap.heap.items) v.items c.args.slots (ap (seen_all g.R.Rank.rank) c.in_ok-heap.ensures.items) size
