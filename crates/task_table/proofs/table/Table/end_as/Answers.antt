-- The run ends as was told.
use Rattle.task_table.proofs.RunEnds.{ends_as}
use Rattle.task_table.proofs.table.Table.end_as.Goals as goal

pub returns : goal.returns
returns g k = λ ending is. ends_as k.args.self.now k.end.new.self k.args.worker ending k.args.end k.held-seat.result k.held-seat.ensures.formed is k.held-seat.ensures.held k.end.ensures
