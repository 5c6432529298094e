-- The table has no task.
use Rattle.std.proofs.Common.{◌≤◌, ap, arith}
use Rattle.task_table.specs.Tables.{TableView}
use Rattle.task_table.specs.Orders.{keys}
use Rattle.task_table.proofs.Worked.{tabled_settled}
use Rattle.task_table.proofs.restoring.TaskTable+A.blank.Goals as goal

pub invariant_of-table : goal.invariant_of-table
invariant_of-table g c =
    let q = c.table.inside in
    let f = c.args.frame in
    let m : TableView = record { moment = q.moment; slots = q.slots; work = q.work.items; policies = q.policies; shut = q.shut; stopped = q.stopped } in
    let r = c.in_ok-reserve.ensures in
    let zero : m.moment ≤ f.moment = omega (arith, ap (λ (v : TableView). v.moment) c.table.view_is, ap (λ (v : TableView). v.moment) r.grown, (c.in_ok-table.ensures.stands).shows.moment) in
    tabled_settled m f.moment f.policies f.shut f.stopped (keys q.queue.entries.entries) (keys q.kept.entries.entries) c.table.invariant zero c.requires.moment
