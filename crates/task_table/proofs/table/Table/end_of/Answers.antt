-- A finish would be answered by an error.
use Rattle.task_table.proofs.Finishes.{finish_refused}
use Rattle.task_table.proofs.table.Table.end_of.Goals as goal

pub returns-in-Err-clause-failed : goal.returns-in-Err-clause-failed
returns-in-Err-clause-failed g k = (k.in-Err.ensures.none, finish_refused k.args.self.now k.args.worker k.args.ending k.in-Err.error k.in-Err.ensures.none)
