-- The place of a slot's entry, or that it has none.
use Rattle.std.proofs.Common.{Some, ap, sym, ◌∙◌, arith}
use Rattle.delay_queue.specs.slots.Entries.{Seen}
use Rattle.delay_queue.specs.slots.Queues.{due_by}
use Rattle.delay_queue.proofs.slots.Calls.{entries_of, found_lent, missing_lent}
use Rattle.delay_queue.proofs.slots.Lookups.{seen_read, seen_long}
use Rattle.delay_queue.proofs.slots.queue.SlotQueue.due_of.Goals as goal

pub returns-in_err-place : goal.returns-in_err-place
returns-in_err-place g c =
    let rank = g.R.Rank.rank in
    let q = c.self.inside in
    c.from_residual.ensures
    ∙ sym (ap due_by (missing_lent rank q.heap.items c.deref.result.now q.places.items c.deref-2.result.now c.args.self.now.entries c.args.slot (ap entries_of c.self.view_is) c.deref.ensures.value
    c.deref-2.ensures.value c.in_err-place.ensures.missing))

pub returns : goal.returns
returns g c =
    let rank = g.R.Rank.rank in
    let q = c.self.inside in
    let k = c.in_ok-place.place in
    let f = found_lent rank q.heap.items c.deref.result.now q.places.items c.args.self.now.entries c.args.slot k (ap entries_of c.self.view_is) c.self.invariant.placed c.deref.ensures.value
    c.in_ok-place.ensures.found in
    ap (λ (e : Seen). Some e.due) (seen_read rank q.heap.items k c.index.result.now (omega (arith, f.0, seen_long rank q.heap.items)) c.index.ensures) ∙ sym (ap due_by f.2)
