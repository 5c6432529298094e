-- The first entry of each queue says whether a task is due.
use Rattle.task_table.proofs.Meeting.{ripe_where}
use Rattle.task_table.proofs.table.Table.is_ripe.Goals as goal

pub returns-in-Some-first_kept : goal.returns-in-Some-first_kept
returns-in-Some-first_kept g k =
    let e = k.in-Some-first_kept.kept in
    ripe_where k.args.self.now e.slot e.due e.number k.now-now.result k.in-None.ensures.none k.in-Some-first_kept.ensures.first k.now-now.ensures.value
