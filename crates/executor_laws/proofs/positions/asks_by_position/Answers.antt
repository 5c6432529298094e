use Rattle.executor_laws.proofs.Asks
use Rattle.executor_laws.proofs.positions.asks_by_position.Goals as goal

pub returns : goal.returns
returns c = Asks.asks_by_position
