-- The head of the queue is the one of the two first entries that is due first.
use Rattle.std.proofs.Common.{sym, subst}
use Rattle.task_table.specs.Firsts.{IsHead}
use Rattle.task_table.proofs.Meeting.{head_either}
use Rattle.task_table.proofs.table.Table.head_due.Goals as goal

pub returns-in-Some-next_due-clause-head : goal.returns-in-Some-next_due-clause-head
returns-in-Some-next_due-clause-head g c =
    let kept = c.in-Some.kept in
    subst (IsHead c.args.self.now) (sym c.min.ensures) (head_either c.args.self.now c.in-Some-next_due.due kept.slot kept.due kept.number c.in-Some-next_due.ensures.first c.in-Some.ensures.first)
