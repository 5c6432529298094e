-- An entry is written as contracts see it.
use Rattle.std.proofs.lemmas.List.{map-set}
use Rattle.delay_queue.specs.slots.Entries.{seen}
use Rattle.delay_queue.proofs.slots.heap.put.Goals as goal

pub returns-clause-heap : goal.returns-clause-heap
returns-clause-heap g c = map-set (seen g.R.Rank.rank) c.args.heap.now c.args.place c.args.entry
