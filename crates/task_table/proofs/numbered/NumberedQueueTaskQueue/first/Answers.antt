-- The least entry of the queue is the first one.
use Rattle.task_table.proofs.Keys.{keys_least}
use Rattle.task_table.proofs.numbered.NumberedQueueTaskQueue.first.Goals as goal

pub returns-clause-least : goal.returns-clause-least
returns-clause-least g k =
    let e = k.in_ok-entry.entry in
    keys_least k.args.self.now.entries.entries (record { due = e.due; rank = e.rank }) e.slot k.in_ok-entry.ensures.least
