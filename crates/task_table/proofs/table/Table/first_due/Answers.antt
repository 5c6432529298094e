-- The least entry of the tasks that wait is the first due task's, where it is due.
use Rattle.std.proofs.Common.{Option, ap, sym, subst, arith}
use Rattle.std.specs.Prelude.{IfNone}
use Rattle.task_table.specs.declared.queues.Entry.{Entry}
use Rattle.task_table.specs.Tables.{TableView}
use Rattle.task_table.specs.Firsts.{NoneDue}
use Rattle.task_table.specs.own.Queues.{IsTable}
use Rattle.task_table.proofs.Meeting.{heads_queue, heads_later, heads_none}
use Rattle.task_table.proofs.table.Table.first_due.Goals as goal

pub returns-in_err-first-clause-none : goal.returns-in_err-first-clause-none
returns-in_err-first-clause-none g k =
    let T = g.Q.TaskQueue in
    let q = k.self.inside in
    let t : IsTable T.admits g.S.Slots.may_run k.args.self.now (T.keys q.queue) (T.keys q.kept) (T.room q.queue) (T.room q.kept) =
    subst (λ m. IsTable T.admits g.S.Slots.may_run m (T.keys q.queue) (T.keys q.kept) (T.room q.queue) (T.room q.kept)) k.self.view_is k.self.invariant
    in
    subst (λ (o : Option Entry). IfNone o (NoneDue k.args.self.now)) (sym k.from_residual.ensures) (heads_none k.args.self.now (T.keys q.queue) (T.keys q.kept) t k.in_err-first.ensures.empty)

pub returns-then-first-self-clause-none : goal.returns-then-first-self-clause-none
returns-then-first-self-clause-none g k =
    let T = g.Q.TaskQueue in
    let q = k.self.inside in
    let t : IsTable T.admits g.S.Slots.may_run k.args.self.now (T.keys q.queue) (T.keys q.kept) (T.room q.queue) (T.room q.kept) =
    subst (λ m. IsTable T.admits g.S.Slots.may_run m (T.keys q.queue) (T.keys q.kept) (T.room q.queue) (T.room q.kept)) k.self.view_is k.self.invariant
    in
    let e = k.in_ok-first.first in
    heads_later k.args.self.now (T.keys q.queue) (T.keys q.kept) e.slot e.due e.number t k.in_ok-first.ensures.least (omega (arith, ap (λ (m : TableView). m.moment) k.self.view_is, k.if-first-self.true))

pub returns-clause-first : goal.returns-clause-first
returns-clause-first g k =
    let T = g.Q.TaskQueue in
    let q = k.self.inside in
    let t : IsTable T.admits g.S.Slots.may_run k.args.self.now (T.keys q.queue) (T.keys q.kept) (T.room q.queue) (T.room q.kept) =
    subst (λ m. IsTable T.admits g.S.Slots.may_run m (T.keys q.queue) (T.keys q.kept) (T.room q.queue) (T.room q.kept)) k.self.view_is k.self.invariant
    in
    let e = k.in_ok-first.first in
    heads_queue k.args.self.now (T.keys q.queue) (T.keys q.kept) e.slot e.due e.number t k.in_ok-first.ensures.least (omega (arith, ap (λ (m : TableView). m.moment) k.self.view_is, k.if-first-self.false))
