-- The least entry of the slots is the least of the tasks, and is taken out.
use Rattle.std.proofs.Common.{◌≡◌, ℕ, ◌-◌, Option, None, set, min, ap, sym, subst, subst₂, ◌∙◌}
use Rattle.std.specs.Prelude.{IfNone}
use Rattle.delay_queue.specs.Queues.{Queue, IsLeast, NoneIsDue}
use Rattle.delay_queue.specs.declared.entry.Entry.{Entry}
use Rattle.delay_queue.proofs.Keys.{entries_of, slots_are, keys_set, table_shown, unranked, least_is, none_due_is, touches_are}
use Rattle.delay_queue.proofs.queue.DelayQueue.poll.Goals as goal

pub returns-in_err-poll-clause-none_due : goal.returns-in_err-poll-clause-none_due
returns-in_err-poll-clause-none_due g c =
    let q = c.self.inside.slots in
    let entries = c.args.self.now.entries in
    subst (λ (o : Option Entry). IfNone o (NoneIsDue entries c.args.now)) (sym c.from_residual.ensures)
    (none_due_is q.entries entries c.args.now (slots_are q.entries entries c.self.invariant (ap entries_of c.self.view_is)) c.in_err-poll.ensures.none_due)

pub invariant_of-self-2 : goal.invariant_of-self-2
invariant_of-self-2 g c =
    let q = c.self.inside.slots in
    let entries = c.args.self.now.entries in
    let e = c.in_ok-poll.field-0 in
    unranked c.poll.new.self.entries (set entries e.slot None)
    (keys_set q.entries c.poll.new.self.entries entries e.slot None (slots_are q.entries entries c.self.invariant (ap entries_of c.self.view_is)) c.in_ok-poll.ensures.removed)

pub returns-clause-least : goal.returns-clause-least
returns-clause-least g c =
    let q = c.self.inside.slots in
    let entries = c.args.self.now.entries in
    let e = c.in_ok-poll.field-0 in
    subst₂ (λ (due task : ℕ). IsLeast entries due task) (sym c.of_task.ensures.due) (sym c.of_task.ensures.task)
    (least_is q.entries entries e.due e.slot (slots_are q.entries entries c.self.invariant (ap entries_of c.self.view_is)) c.in_ok-poll.ensures.least)

pub returns-clause-removed : goal.returns-clause-removed
returns-clause-removed g c =
    let q = c.self.inside.slots in
    let entries = c.args.self.now.entries in
    let e = c.in_ok-poll.field-0 in
    table_shown c.poll.new.self.entries (set entries e.slot None)
    (keys_set q.entries c.poll.new.self.entries entries e.slot None (slots_are q.entries entries c.self.invariant (ap entries_of c.self.view_is)) c.in_ok-poll.ensures.removed)
    ∙ ap (λ (n : ℕ). set entries n None) (sym c.of_task.ensures.task)

pub returns-clause-touched : goal.returns-clause-touched
returns-clause-touched g c =
    let q = c.self.inside.slots in
    touches_are q.entries c.args.self.now.entries q.touched c.args.self.now.touched c.poll.new.self.touched (λ (n : ℕ). min 1 (n - 1))
    (slots_are q.entries c.args.self.now.entries c.self.invariant (ap entries_of c.self.view_is)) (ap (λ (v : Queue). v.touched) c.self.view_is) c.in_ok-poll.ensures.touched
