-- The least entry of the kept tasks is the first one's.
use Rattle.std.proofs.Common.{subst}
use Rattle.task_table.specs.declared.queues.Entry.{Entry}
use Rattle.task_table.specs.own.Heads.{HeadsKept}
use Rattle.task_table.specs.Orders.{IsLeastKey}
use Rattle.task_table.specs.own.Queues.{IsTable}
use Rattle.task_table.proofs.Meeting.{if_some, if_none, heads_kept, none_stays}
use Rattle.task_table.proofs.table.Table.first_kept.Goals as goal

pub returns-clause-first : goal.returns-clause-first
returns-clause-first g k =
    let T = g.Q.TaskQueue in
    let q = k.self.inside in
    let t : IsTable T.admits g.S.Slots.may_run k.args.self.now (T.keys q.queue) (T.keys q.kept) (T.room q.queue) (T.room q.kept) =
    subst (λ m. IsTable T.admits g.S.Slots.may_run m (T.keys q.queue) (T.keys q.kept) (T.room q.queue) (T.room q.kept)) k.self.view_is k.self.invariant
    in
    if_some (λ (e : Entry). IsLeastKey (T.keys q.kept) e.slot e.due e.number) (λ (e : Entry). HeadsKept k.args.self.now e.slot e.due e.number) k.first.result
    (λ e least. heads_kept k.args.self.now (T.keys q.queue) (T.keys q.kept) e.slot e.due e.number t least) k.first.ensures.least

pub returns-clause-none : goal.returns-clause-none
returns-clause-none g k =
    let T = g.Q.TaskQueue in
    let q = k.self.inside in
    let t : IsTable T.admits g.S.Slots.may_run k.args.self.now (T.keys q.queue) (T.keys q.kept) (T.room q.queue) (T.room q.kept) =
    subst (λ m. IsTable T.admits g.S.Slots.may_run m (T.keys q.queue) (T.keys q.kept) (T.room q.queue) (T.room q.kept)) k.self.view_is k.self.invariant
    in
    if_none k.first.result (none_stays k.args.self.now (T.keys q.queue) (T.keys q.kept) t) k.first.ensures.empty
