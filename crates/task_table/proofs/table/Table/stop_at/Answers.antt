-- What the queues hold stays.
use Rattle.std.proofs.Common.{true, ap, arith}
use Rattle.task_table.specs.Tables.{TableView}
use Rattle.task_table.proofs.Worked.{tabled_settled}
use Rattle.task_table.proofs.table.Table.stop_at.Goals as goal

pub invariant_of-self : goal.invariant_of-self
invariant_of-self g k =
    let q = k.self.inside in
    let m : TableView = record { moment = q.moment; slots = g.S.Slots.seats q.slots; work = q.work.items; policies = q.policies; shut = q.shut; stopped = q.stopped } in
    let x = k.args in
    tabled_settled m x.at m.policies true true (g.Q.TaskQueue.keys q.queue) (g.Q.TaskQueue.keys q.kept) k.self.invariant (omega (arith, ap (λ (n : TableView). n.moment) k.self.view_is, k.requires.moment)) k.requires.limit
