-- The slots of both hold the same, and each worker of both has the same.
use Rattle.task_table.proofs.Imaged.{one_table}
use Rattle.task_table.proofs.laws.what_is_written_is_of_one_table.Goals as goal

pub returns : goal.returns
returns c = one_table
