-- The entries are as many as the slots that have one.
use Rattle.std.proofs.Common.{◌∙◌}
use Rattle.task_table.proofs.Queuing.{keys_counted}
use Rattle.task_table.proofs.numbered.NumberedQueueTaskQueue.len.Goals as goal

pub returns : goal.returns
returns g k = k.len.ensures ∙ keys_counted k.args.self.now.entries.entries
