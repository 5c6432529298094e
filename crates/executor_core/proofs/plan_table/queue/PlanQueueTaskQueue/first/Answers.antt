-- The least entry of the queue is the first one.
use Rattle.std.proofs.Common.{subst, sym}
use Rattle.task_table.specs.Orders.{IsLeastKey}
use Rattle.executor_core.specs.plan_table.Numbered.{keys_by}
use Rattle.executor_core.proofs.plan_table.Entries.{keys_least}
use Rattle.executor_core.proofs.plan_table.queue.PlanQueueTaskQueue.first.Goals as goal

pub returns-clause-least : goal.returns-clause-least
returns-clause-least g c =
    let e = c.in_ok-entry.entry in
    let entries = c.args.self.now.entries.entries in
    subst (IsLeastKey (keys_by entries) e.task e.due) (sym c.from.ensures) (keys_least entries e.due e.task c.in_ok-entry.ensures.least)
