-- The entries of the two queues are as many as the tasks that stand in the queue.
use Rattle.std.proofs.Common.{ap, arith}
use Rattle.task_table.specs.Tables.{TableView}
use Rattle.task_table.specs.Firsts.{queue_in}
use Rattle.task_table.proofs.Queuing.{queue_counted, queue_few}
use Rattle.task_table.proofs.table.Table.queued.Goals as goal

pub overflow_add-result : goal.overflow_add-result
overflow_add-result g k =
    let T = g.Q.TaskQueue in
    let q = k.self.inside in
    let m : TableView = record { moment = q.moment; slots = g.S.Slots.seats q.slots; work = q.work.items; policies = q.policies; shut = q.shut; stopped = q.stopped } in
    omega (arith, k.len.ensures, k.len-2.ensures, queue_counted m (T.keys q.queue) (T.keys q.kept) (T.room q.queue) (T.room q.kept) k.self.invariant, queue_few m, k.self.invariant.formed.slots)

pub returns-clause-count : goal.returns-clause-count
returns-clause-count g k =
    let T = g.Q.TaskQueue in
    let q = k.self.inside in
    let m : TableView = record { moment = q.moment; slots = g.S.Slots.seats q.slots; work = q.work.items; policies = q.policies; shut = q.shut; stopped = q.stopped } in
    omega (arith, k.len.ensures, k.len-2.ensures, queue_counted m (T.keys q.queue) (T.keys q.kept) (T.room q.queue) (T.room q.kept) k.self.invariant, ap (λ (n : TableView). queue_in n.slots) k.self.view_is)
