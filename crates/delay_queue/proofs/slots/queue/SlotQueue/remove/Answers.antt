-- The place of a slot's entry, from which it is taken out, or that it has none.
use Rattle.std.proofs.Common.{◌≡◌, ℕ, ◌+◌, ◌<◌, ◌≤◌, None, length, is_some, set, min, ap, sym, subst, subst₂, ◌∙◌, arith}
use Rattle.std.proofs.lemmas.Option.{none-some}
use Rattle.delay_queue.specs.slots.Entries.{seen_all}
use Rattle.delay_queue.specs.slots.Queues.{Queue, IsLeast, entry_count}
use Rattle.delay_queue.specs.Touches.{most_touches, greatest_count}
use Rattle.delay_queue.proofs.slots.Counts.{count_placed, count_within, some_touched}
use Rattle.delay_queue.proofs.slots.Calls.{entries_of, least_place, found_lent, missing_lent, nothing_there, removed_lent}
use Rattle.delay_queue.proofs.slots.Lookups.{seen_long}
use Rattle.delay_queue.proofs.slots.queue.SlotQueue.remove.Goals as goal

pub returns-in_default-clause-there : goal.returns-in_default-clause-there
returns-in_default-clause-there g c =
    let rank = g.R.Rank.rank in
    let q = c.self.inside in
    sym (ap is_some (missing_lent rank q.heap.items c.deref.result.now q.places.items c.deref-2.result.now c.args.self.now.entries c.args.slot (ap entries_of c.self.view_is) c.deref.ensures.value
    c.deref-2.ensures.value c.in_default.ensures.missing))

pub returns-in_default-clause-removed : goal.returns-in_default-clause-removed
returns-in_default-clause-removed g c =
    let rank = g.R.Rank.rank in
    let q = c.self.inside in
    nothing_there c.args.self.now.entries c.args.slot
    (missing_lent rank q.heap.items c.deref.result.now q.places.items c.deref-2.result.now c.args.self.now.entries c.args.slot (ap entries_of c.self.view_is) c.deref.ensures.value
    c.deref-2.ensures.value c.in_default.ensures.missing)

pub returns-in_default-clause-least : goal.returns-in_default-clause-least
returns-in_default-clause-least g c key h =
    let rank = g.R.Rank.rank in
    let q = c.self.inside in
    absurd (none-some key (sym (missing_lent rank q.heap.items c.deref.result.now q.places.items c.deref-2.result.now c.args.self.now.entries c.args.slot (ap entries_of c.self.view_is) c.deref.ensures.value
    c.deref-2.ensures.value c.in_default.ensures.missing) ∙ h.there))

pub take_out-touches-requires-clause-few : goal.take_out-touches-requires-clause-few
take_out-touches-requires-clause-few g c =
    let rank = g.R.Rank.rank in
    let q = c.self.inside in
    omega (arith, count_within (seen_all rank q.heap.items) q.places.items c.self.invariant.placed, seen_long rank q.heap.items, c.self.invariant.few)

pub returns-clause-there : goal.returns-clause-there
returns-clause-there g c =
    let rank = g.R.Rank.rank in
    let q = c.self.inside in
    let f = found_lent rank q.heap.items c.deref.result.now q.places.items c.args.self.now.entries c.args.slot c.in-Some.place (ap entries_of c.self.view_is) c.self.invariant.placed
    c.deref.ensures.value c.in-Some.ensures.found in
    sym (ap is_some f.2)

pub returns-clause-removed : goal.returns-clause-removed
returns-clause-removed g c =
    let rank = g.R.Rank.rank in
    let q = c.self.inside in
    let r = c.take_out-touches in
    let f = found_lent rank q.heap.items c.deref.result.now q.places.items c.args.self.now.entries c.args.slot c.in-Some.place (ap entries_of c.self.view_is) c.self.invariant.placed
    c.deref.ensures.value c.in-Some.ensures.found in
    removed_lent (seen_all rank q.heap.items) (seen_all rank r.new.heap.items) q.places.items c.deref_mut.result.now r.new.places c.args.self.now.entries c.in-Some.place q.places.len
    (ap entries_of c.self.view_is) c.self.invariant.placed f.0 c.deref_mut.ensures.value q.places.ok.0 r.ensures.places_length r.ensures.taken r.ensures.others
    ∙ ap (λ (n : ℕ). set c.args.self.now.entries n None) f.1

pub returns-clause-touched : goal.returns-clause-touched
returns-clause-touched g c =
    let rank = g.R.Rank.rank in
    let q = c.self.inside in
    let size : length q.heap.items ≡ entry_count c.args.self.now.entries =
    sym (seen_long rank q.heap.items) ∙ sym (count_placed (seen_all rank q.heap.items) q.places.items c.self.invariant.placed) ∙ ap entry_count (ap entries_of c.self.view_is) in
    record {
      times = c.take_out-touches.result;
      many = omega arith;
      few = subst (λ (n : ℕ). c.take_out-touches.result ≤ most_touches n) size c.take_out-touches.ensures.few;
      counted = c.count.ensures ∙ ap (λ (v : Queue). min (v.touched + c.take_out-touches.result) greatest_count) c.self.view_is;
    }

pub returns-clause-least : goal.returns-clause-least
returns-clause-least g c key h =
    let rank = g.R.Rank.rank in
    let q = c.self.inside in
    let k = c.in-Some.place in
    let t = c.take_out-touches in
    let queue = c.args.self.now.entries in
    let all = seen_all rank q.heap.items in
    let size : length q.heap.items ≡ entry_count queue =
    sym (seen_long rank q.heap.items) ∙ sym (count_placed all q.places.items c.self.invariant.placed) ∙ ap entry_count (ap entries_of c.self.view_is) in
    let f = found_lent rank q.heap.items c.deref.result.now q.places.items c.args.self.now.entries c.args.slot c.in-Some.place (ap entries_of c.self.view_is) c.self.invariant.placed
    c.deref.ensures.value c.in-Some.ensures.found in
    let first : k ≡ 0 = least_place all q.places.items queue k key (ap entries_of c.self.view_is) c.self.invariant.heap c.self.invariant.placed f.0
    (subst (λ (n : ℕ). IsLeast queue key n) (sym f.1) h) in
    record {
      times = t.result;
      many = some_touched (entry_count queue) t.result (subst₂ (λ (n k : ℕ). k + 1 < n → 0 < t.result) size first t.ensures.many);
      few = subst (λ (n : ℕ). t.result ≤ most_touches n) size t.ensures.few;
      counted = c.count.ensures ∙ ap (λ (v : Queue). min (v.touched + t.result) greatest_count) c.self.view_is;
    }
