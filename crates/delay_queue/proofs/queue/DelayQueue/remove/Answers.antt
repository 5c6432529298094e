-- The entry leaves the slot of its task.
use Rattle.std.proofs.Common.{ℕ, ◌-◌, None, set, min, ap}
use Rattle.delay_queue.specs.Queues.{Queue}
use Rattle.delay_queue.specs.own.Unranked.{key_due}
use Rattle.delay_queue.proofs.Keys.{entries_of, slots_are, keys_set, table_shown, unranked, least_slot, touches_are}
use Rattle.delay_queue.proofs.queue.DelayQueue.remove.Goals as goal

pub invariant_of-self : goal.invariant_of-self
invariant_of-self g c =
    let q = c.self.inside.slots in
    let entries = c.args.self.now.entries in
    unranked c.remove.new.self.entries (set entries c.args.task None)
    (keys_set q.entries c.remove.new.self.entries entries c.args.task None (slots_are q.entries entries c.self.invariant (ap entries_of c.self.view_is)) c.remove.ensures.removed)

pub returns-clause-removed : goal.returns-clause-removed
returns-clause-removed g c =
    let q = c.self.inside.slots in
    let entries = c.args.self.now.entries in
    table_shown c.remove.new.self.entries (set entries c.args.task None)
    (keys_set q.entries c.remove.new.self.entries entries c.args.task None (slots_are q.entries entries c.self.invariant (ap entries_of c.self.view_is)) c.remove.ensures.removed)

pub returns-clause-touched : goal.returns-clause-touched
returns-clause-touched g c =
    let q = c.self.inside.slots in
    touches_are q.entries c.args.self.now.entries q.touched c.args.self.now.touched c.remove.new.self.touched (λ (n : ℕ). 0)
    (slots_are q.entries c.args.self.now.entries c.self.invariant (ap entries_of c.self.view_is)) (ap (λ (v : Queue). v.touched) c.self.view_is) c.remove.ensures.touched

pub returns-clause-least : goal.returns-clause-least
returns-clause-least g c due h =
    let q = c.self.inside.slots in
    let is = slots_are q.entries c.args.self.now.entries c.self.invariant (ap entries_of c.self.view_is) in
    touches_are q.entries c.args.self.now.entries q.touched c.args.self.now.touched c.remove.new.self.touched (λ (n : ℕ). min 1 (n - 1)) is (ap (λ (v : Queue). v.touched) c.self.view_is)
    (c.remove.ensures.least (key_due due) (least_slot q.entries c.args.self.now.entries due c.args.task is h))
