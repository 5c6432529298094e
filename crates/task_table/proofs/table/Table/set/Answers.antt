-- What the queues hold stays.
use Rattle.std.proofs.Common.{sym, subst, ap, arith}
use Rattle.sched_time.specs.Policies.{set_policy}
use Rattle.task_table.specs.Tables.{TableView}
use Rattle.task_table.specs.own.Queues.{IsTable}
use Rattle.task_table.proofs.Worked.{tabled_settled}
use Rattle.task_table.proofs.table.Table.set.Goals as goal

pub invariant_of-self : goal.invariant_of-self
invariant_of-self g k =
    let q = k.self.inside in
    let m : TableView = record { moment = q.moment; slots = g.S.Slots.seats q.slots; work = q.work.items; policies = q.policies; shut = q.shut; stopped = q.stopped } in
    let x = k.args in
    subst (λ p. IsTable g.Q.TaskQueue.admits g.S.Slots.may_run (record m { moment = x.at; policies = p }) (g.Q.TaskQueue.keys q.queue) (g.Q.TaskQueue.keys q.kept) (g.Q.TaskQueue.room q.queue) (g.Q.TaskQueue.room q.kept)) (sym k.with-policies.ensures)
    (tabled_settled m x.at (set_policy x.which x.value m.policies) m.shut m.stopped (g.Q.TaskQueue.keys q.queue) (g.Q.TaskQueue.keys q.kept) k.self.invariant (omega (arith, ap (λ (n : TableView). n.moment) k.self.view_is, k.requires.moment)) k.requires.limit)
