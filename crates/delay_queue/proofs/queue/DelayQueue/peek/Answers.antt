-- The least entry of the slots is the least of the tasks.
use Rattle.std.proofs.Common.{ℕ, Option, ap, sym, subst, subst₂}
use Rattle.std.specs.Prelude.{IfNone}
use Rattle.delay_queue.specs.Queues.{IsLeast, IsEmpty}
use Rattle.delay_queue.specs.declared.entry.Entry.{Entry}
use Rattle.delay_queue.proofs.Keys.{entries_of, slots_are, least_is, empty_is}
use Rattle.delay_queue.proofs.queue.DelayQueue.peek.Goals as goal

pub returns-in_err-peek-clause-empty : goal.returns-in_err-peek-clause-empty
returns-in_err-peek-clause-empty g c =
    let q = c.self.inside.slots in
    let entries = c.args.self.now.entries in
    subst (λ (o : Option Entry). IfNone o (IsEmpty entries)) (sym c.from_residual.ensures)
    (empty_is q.entries entries (slots_are q.entries entries c.self.invariant (ap entries_of c.self.view_is)) c.in_err-peek.ensures.empty)

pub returns-clause-least : goal.returns-clause-least
returns-clause-least g c =
    let q = c.self.inside.slots in
    let entries = c.args.self.now.entries in
    let e = c.in_ok-peek.field-0 in
    subst₂ (λ (due task : ℕ). IsLeast entries due task) (sym c.of_task.ensures.due) (sym c.of_task.ensures.task)
    (least_is q.entries entries e.due e.slot (slots_are q.entries entries c.self.invariant (ap entries_of c.self.view_is)) c.in_ok-peek.ensures.least)
