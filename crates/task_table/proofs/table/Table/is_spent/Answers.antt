-- The task that heads the queue is the first one that is due, and has had fewer runs.
use Rattle.std.proofs.Common.{◌-◌, ◌^◌, sym, ◌∙◌}
use Rattle.std.proofs.lemmas.Bool.{false≢true, eq-eqb}
use Rattle.task_table.proofs.Meeting.{not_full}
use Rattle.task_table.proofs.table.Table.is_spent.Goals as goal

pub returns-clause-fresh : goal.returns-clause-fresh
returns-clause-fresh g c = λ less.
    let first = c.in-Some.first in
    let x = c.held.result in
    not_full c.args.self.now first.slot first.due first.number x c.in-Some.ensures.first c.held.ensures.held (λ last. false≢true (sym less ∙ eq-eqb x.run (2 ^ 64 - 1) last))
