-- The first entry is the least.
use Rattle.std.proofs.Common.{ap, refl, subst, ◌∙◌, List}
use Rattle.std.specs.Prelude.{slice_get}
use Rattle.delay_queue.specs.slots.Entries.{Seen, seen, seen_all, key_of}
use Rattle.delay_queue.specs.slots.Queues.{IsLeast, IsEmpty}
use Rattle.delay_queue.specs.declared.slots.entry.Entry.{Entry}
use Rattle.delay_queue.proofs.slots.Calls.{entries_of, least, empty, if_first, if_empty, first_read}
use Rattle.delay_queue.proofs.slots.Lookups.{seen_long}
use Rattle.delay_queue.proofs.slots.queue.SlotQueue.peek.Goals as goal

pub returns-clause-least : goal.returns-clause-least
returns-clause-least g c =
    let rank = g.R.Rank.rank in
    let q = c.self.inside in
    let entries = c.args.self.now.entries in
    if_first q.heap.items c.copied.result (λ (e : Entry _). IsLeast entries (key_of (seen rank e)) e.slot)
    (c.copied.ensures ∙ c.first.ensures.value ∙ ap (λ (l : List (Entry _)). slice_get l 0) c.deref.ensures.value)
    (λ e read.
    let f = first_read rank q.heap.items q.heap.items e refl read in
    subst (λ (x : Seen). IsLeast entries (key_of x) x.slot) f.1 (least (seen_all rank q.heap.items) q.places.items entries (ap entries_of c.self.view_is) c.self.invariant.heap c.self.invariant.placed f.0))

pub returns-clause-empty : goal.returns-clause-empty
returns-clause-empty g c =
    let rank = g.R.Rank.rank in
    let q = c.self.inside in
    if_empty q.heap.items c.copied.result (IsEmpty c.args.self.now.entries)
    (c.copied.ensures ∙ c.first.ensures.value ∙ ap (λ (l : List (Entry _)). slice_get l 0) c.deref.ensures.value)
    (λ none. empty (seen_all rank q.heap.items) q.places.items c.args.self.now.entries (ap entries_of c.self.view_is) (seen_long rank q.heap.items ∙ none))
