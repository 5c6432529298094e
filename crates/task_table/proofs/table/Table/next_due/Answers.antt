-- The least entry of the tasks that wait is due first.
use Rattle.std.proofs.Common.{ℕ, Option, sym, subst}
use Rattle.std.specs.Prelude.{IfNone}
use Rattle.task_table.specs.Firsts.{NoneWaits}
use Rattle.task_table.specs.own.Queues.{IsTable}
use Rattle.task_table.proofs.Meeting.{heads_earliest, none_waits}
use Rattle.task_table.proofs.table.Table.next_due.Goals as goal

pub returns-in_err-least-clause-none : goal.returns-in_err-least-clause-none
returns-in_err-least-clause-none g k =
    let T = g.Q.TaskQueue in
    let q = k.self.inside in
    let t : IsTable T.admits g.S.Slots.may_run k.args.self.now (T.keys q.queue) (T.keys q.kept) (T.room q.queue) (T.room q.kept) =
    subst (λ m. IsTable T.admits g.S.Slots.may_run m (T.keys q.queue) (T.keys q.kept) (T.room q.queue) (T.room q.kept)) k.self.view_is k.self.invariant
    in
    subst (λ (o : Option ℕ). IfNone o (NoneWaits k.args.self.now)) (sym k.from_residual.ensures) (none_waits k.args.self.now (T.keys q.queue) (T.keys q.kept) t k.in_err-least.ensures.empty)

pub returns-clause-first : goal.returns-clause-first
returns-clause-first g k =
    let T = g.Q.TaskQueue in
    let q = k.self.inside in
    let t : IsTable T.admits g.S.Slots.may_run k.args.self.now (T.keys q.queue) (T.keys q.kept) (T.room q.queue) (T.room q.kept) =
    subst (λ m. IsTable T.admits g.S.Slots.may_run m (T.keys q.queue) (T.keys q.kept) (T.room q.queue) (T.room q.kept)) k.self.view_is k.self.invariant
    in
    let e = k.in_ok-least.least in
    heads_earliest k.args.self.now (T.keys q.queue) (T.keys q.kept) e.slot e.due e.number t k.in_ok-least.ensures.least
