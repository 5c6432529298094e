-- Each run is below the number of events taken, once one more is counted.
use Rattle.executor_core.proofs.Placing.{placed_counted}
use Rattle.executor_core.proofs.machine.Core.count.Goals as goal

pub returns-clause-runs : goal.returns-clause-runs
returns-clause-runs g c = λ k. placed_counted c.self.inside.taken c.self.inside.table.slots k c.self.invariant.placed
