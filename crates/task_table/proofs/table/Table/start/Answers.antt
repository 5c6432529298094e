-- The start is answered by an error.
use Rattle.task_table.proofs.Clocks.{start_refused}
use Rattle.task_table.proofs.table.Table.start.Goals as goal

pub returns-in-Some-clause-failed : goal.returns-in-Some-clause-failed
returns-in-Some-clause-failed g k = (k.in-Some.ensures.refused, start_refused k.args.self.now k.args.worker k.in-Some.error k.in-Some.ensures.refused)
