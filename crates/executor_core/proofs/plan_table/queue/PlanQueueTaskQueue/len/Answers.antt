-- The entries are as many as the slots that have one.
use Rattle.std.proofs.Common.{◌∙◌}
use Rattle.executor_core.proofs.plan_table.Entries.{keys_counted}
use Rattle.executor_core.proofs.plan_table.queue.PlanQueueTaskQueue.len.Goals as goal

pub returns : goal.returns
returns g c = c.len.ensures ∙ keys_counted c.args.self.now.entries.entries
