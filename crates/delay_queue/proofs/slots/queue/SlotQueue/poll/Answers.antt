-- The first entry is the least, and is taken out.
use Rattle.std.proofs.Common.{◌≡◌, ℕ, ◌+◌, ◌<◌, ◌≤◌, None, length, set, min, ap, sym, subst, ◌∙◌, arith}
use Rattle.std.specs.Prelude.{IfNone}
use Rattle.delay_queue.specs.slots.Entries.{Seen, seen_all, key_of}
use Rattle.delay_queue.specs.slots.Queues.{Queue, IsLeast, NoneIsDue, entry_count}
use Rattle.delay_queue.specs.Touches.{most_touches, greatest_count}
use Rattle.delay_queue.proofs.slots.Counts.{count_placed, count_within, some_touched}
use Rattle.delay_queue.proofs.slots.Calls.{entries_of, least, empty, nothing_first, none_due, first_read, removed_lent}
use Rattle.delay_queue.proofs.slots.Lookups.{seen_long}
use Rattle.delay_queue.proofs.slots.queue.SlotQueue.poll.Goals as goal

pub returns-in_err-least-clause-none_due : goal.returns-in_err-least-clause-none_due
returns-in_err-least-clause-none_due g c =
    let rank = g.R.Rank.rank in
    let q = c.self.inside in
    let none = nothing_first rank q.heap.items c.deref.result.now c.deref.ensures.value c.in_err-least.ensures.value in
    subst (λ o. IfNone o (NoneIsDue c.args.self.now.entries c.args.now)) (sym c.from_residual.ensures)
    (λ j key there. absurd (empty (seen_all rank q.heap.items) q.places.items c.args.self.now.entries (ap entries_of c.self.view_is) none j key there))

pub returns-then-now-least-clause-none_due : goal.returns-then-now-least-clause-none_due
returns-then-now-least-clause-none_due g c =
    let rank = g.R.Rank.rank in
    let q = c.self.inside in
    let f = first_read rank q.heap.items c.deref.result.now c.in_ok-least.field-0.now c.deref.ensures.value c.in_ok-least.ensures.value in
    none_due (seen_all rank q.heap.items) q.places.items c.args.self.now.entries c.args.now (ap entries_of c.self.view_is) c.self.invariant.heap
    (subst (λ (x : Seen). c.args.now < x.due) (sym f.1) c.if-now-least.true)

pub take_out-touches-requires-clause-few : goal.take_out-touches-requires-clause-few
take_out-touches-requires-clause-few g c =
    let rank = g.R.Rank.rank in
    let q = c.self.inside in
    omega (arith, count_within (seen_all rank q.heap.items) q.places.items c.self.invariant.placed, seen_long rank q.heap.items, c.self.invariant.few)

pub returns-clause-least : goal.returns-clause-least
returns-clause-least g c =
    let rank = g.R.Rank.rank in
    let q = c.self.inside in
    let f = first_read rank q.heap.items c.deref.result.now c.in_ok-least.field-0.now c.deref.ensures.value c.in_ok-least.ensures.value in
    subst (λ (x : Seen). IsLeast c.args.self.now.entries (key_of x) x.slot) f.1
    (least (seen_all rank q.heap.items) q.places.items c.args.self.now.entries (ap entries_of c.self.view_is) c.self.invariant.heap c.self.invariant.placed f.0)

pub returns-clause-removed : goal.returns-clause-removed
returns-clause-removed g c =
    let rank = g.R.Rank.rank in
    let q = c.self.inside in
    let r = c.take_out-touches in
    let f = first_read rank q.heap.items c.deref.result.now c.in_ok-least.field-0.now c.deref.ensures.value c.in_ok-least.ensures.value in
    removed_lent (seen_all rank q.heap.items) (seen_all rank r.new.heap.items) q.places.items c.deref_mut.result.now r.new.places c.args.self.now.entries 0 q.places.len (ap entries_of c.self.view_is)
    c.self.invariant.placed f.0 c.deref_mut.ensures.value q.places.ok.0 r.ensures.places_length r.ensures.taken r.ensures.others
    ∙ ap (λ (x : Seen). set c.args.self.now.entries x.slot None) f.1

pub returns-clause-touched : goal.returns-clause-touched
returns-clause-touched g c =
    let rank = g.R.Rank.rank in
    let q = c.self.inside in
    let size : length q.heap.items ≡ entry_count c.args.self.now.entries =
    sym (seen_long rank q.heap.items) ∙ sym (count_placed (seen_all rank q.heap.items) q.places.items c.self.invariant.placed) ∙ ap entry_count (ap entries_of c.self.view_is) in
    record {
      times = c.take_out-touches.result;
      many = some_touched (entry_count c.args.self.now.entries) c.take_out-touches.result (subst (λ (n : ℕ). 0 + 1 < n → 0 < c.take_out-touches.result) size c.take_out-touches.ensures.many);
      few = subst (λ (n : ℕ). c.take_out-touches.result ≤ most_touches n) size c.take_out-touches.ensures.few;
      counted = c.count.ensures ∙ ap (λ (v : Queue). min (v.touched + c.take_out-touches.result) greatest_count) c.self.view_is;
    }
