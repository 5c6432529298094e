-- The entry goes into the slot of its task.
use Rattle.std.proofs.Common.{◌≡◌, ℕ, min, map, List, Option, Some, set, ap, ◌∙◌}
use Rattle.delay_queue.specs.slots.Entries.{Key}
use Rattle.delay_queue.specs.Queues.{Queue}
use Rattle.delay_queue.specs.own.Unranked.{key_due, keys_by}
use Rattle.delay_queue.specs.declared.entry.Entry.{Entry}
use Rattle.delay_queue.proofs.Keys.{entries_of, slots_are, keys_set, table_shown, unranked, touches_are}
use Rattle.delay_queue.proofs.queue.DelayQueue.insert.Goals as goal

-- the slots after it
inserted : (kept kept' : List (Option Key)) (entries : List (Option ℕ)) (e : Entry) (due slot : ℕ) → kept ≡ keys_by entries → due ≡ e.due → slot ≡ e.task
    → kept' ≡ set kept slot (Some (key_due due)) → kept' ≡ keys_by (set entries e.task (Some e.due))
inserted kept kept' entries e due slot is moment task put =
    keys_set kept kept' entries e.task (Some e.due) is
    (put ∙ ap (λ (d : ℕ). set kept slot (Some (key_due d))) moment ∙ ap (λ (n : ℕ). set kept n (Some (key_due e.due))) task)

pub invariant_of-self : goal.invariant_of-self
invariant_of-self g c =
    let q = c.self.inside.slots in
    let entries = c.args.self.now.entries in
    let e = c.args.entry in
    unranked c.insert.new.self.entries (set entries e.task (Some e.due))
    (inserted q.entries c.insert.new.self.entries entries e c.in_slot.result.due c.in_slot.result.slot (slots_are q.entries entries c.self.invariant (ap entries_of c.self.view_is))
    c.in_slot.ensures.due c.in_slot.ensures.slot c.insert.ensures.inserted)

pub returns-clause-inserted : goal.returns-clause-inserted
returns-clause-inserted g c =
    let q = c.self.inside.slots in
    let entries = c.args.self.now.entries in
    let e = c.args.entry in
    table_shown c.insert.new.self.entries (set entries e.task (Some e.due))
    (inserted q.entries c.insert.new.self.entries entries e c.in_slot.result.due c.in_slot.result.slot (slots_are q.entries entries c.self.invariant (ap entries_of c.self.view_is))
    c.in_slot.ensures.due c.in_slot.ensures.slot c.insert.ensures.inserted)

pub returns-clause-touched : goal.returns-clause-touched
returns-clause-touched g c =
    let q = c.self.inside.slots in
    touches_are q.entries c.args.self.now.entries q.touched c.args.self.now.touched c.insert.new.self.touched (λ (n : ℕ). min 1 n)
    (slots_are q.entries c.args.self.now.entries c.self.invariant (ap entries_of c.self.view_is)) (ap (λ (v : Queue). v.touched) c.self.view_is) c.insert.ensures.touched
