-- The new slots have no entry.
use Rattle.std.proofs.Common.{◌≡◌, ◌-◌, ◌++◌, List, take, replicate, ap, ◌∙◌, arith, rules}
use Rattle.delay_queue.specs.slots.Entries.{seen_all}
use Rattle.delay_queue.specs.slots.own.Heaps.{table}
use Rattle.delay_queue.specs.declared.slots.entry.Entry.{Entry}
use Rattle.delay_queue.proofs.slots.Calls.{entries_of}
use Rattle.delay_queue.proofs.slots.Counts.{count_within}
use Rattle.delay_queue.proofs.slots.Growing.{slots_of, none_grown, table_filled}
use Rattle.delay_queue.proofs.slots.Lookups.{seen_long}
use Rattle.delay_queue.proofs.slots.queue.SlotQueue.reserve.Goals as goal

pub returns-then-count-len-clause-grown : goal.returns-then-count-len-clause-grown
returns-then-count-len-clause-grown g c =
    let q = c.self.inside in
    let size = slots_of (seen_all g.R.Rank.rank q.heap.items) q.places.items c.args.self.now.entries (ap entries_of c.self.view_is) in
    none_grown c.args.self.now.entries c.args.slots (omega (arith, c.if-count-len.true, c.len.ensures, q.places.ok.0, size))

pub overflow_sub-count : goal.overflow_sub-count
overflow_sub-count g c =
    let q = c.self.inside in
    let all = seen_all g.R.Rank.rank q.heap.items in
    omega (
      arith,
      c.if-count-len.false,
      c.len.ensures,
      c.len-2.ensures,
      q.places.ok.0,
      q.heap.ok.0,
      count_within all q.places.items c.self.invariant.placed,
      seen_long g.R.Rank.rank q.heap.items,
    )

pub returns-then-is_err-clause-roomy : goal.returns-then-is_err-clause-roomy
returns-then-is_err-clause-roomy g c few =
    let q = c.self.inside in
    let size = slots_of (seen_all g.R.Rank.rank q.heap.items) q.places.items c.args.self.now.entries (ap entries_of c.self.view_is) in
    absurd (omega (arith, few, c.if-count-len.false, c.len.ensures, q.places.ok.0, size))

pub returns-then-is_err-2-clause-roomy : goal.returns-then-is_err-2-clause-roomy
returns-then-is_err-2-clause-roomy g c few =
    let q = c.self.inside in
    let size = slots_of (seen_all g.R.Rank.rank q.heap.items) q.places.items c.args.self.now.entries (ap entries_of c.self.view_is) in
    absurd (omega (arith, few, c.if-count-len.false, c.len.ensures, q.places.ok.0, size))

pub returns-clause-grown : goal.returns-clause-grown
returns-clause-grown g c =
    let rank = g.R.Rank.rank in
    let q = c.self.inside in
    let filled : c.resize.new.self.items ≡ take c.args.slots q.places.items ++ replicate (c.args.slots - q.places.len) 0 = search rules in
    ap (λ (l : List (Entry _)). table (seen_all rank l) c.resize.new.self.items) c.reserve.ensures.items
    ∙ table_filled (seen_all rank q.heap.items) q.places.items c.resize.new.self.items c.args.self.now.entries c.args.slots q.places.len (ap entries_of c.self.view_is) c.self.invariant.placed
    q.places.ok.0 (omega (arith, c.if-count-len.false, c.len.ensures)) filled
