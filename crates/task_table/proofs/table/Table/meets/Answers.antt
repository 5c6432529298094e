-- The kept task comes before the first one that is due, or after it.
use Rattle.task_table.proofs.Meeting.{met_first, met_later}
use Rattle.task_table.proofs.table.Table.meets.Goals as goal

pub returns-then-due-now : goal.returns-then-due-now
returns-then-due-now g k =
    let f = k.in-Some.first in
    met_first k.args.self.now f.slot k.args.due k.args.number f.due f.number k.now-now.result k.comes_before.result k.in-Some.ensures.first k.now-now.ensures.value k.if-due-now.true k.comes_before.ensures

pub returns-else-due-now : goal.returns-else-due-now
returns-else-due-now g k =
    let f = k.in-Some.first in
    met_later k.args.self.now f.slot k.args.due k.args.number f.due f.number k.now-now.result k.in-Some.ensures.first k.now-now.ensures.value k.if-due-now.false
