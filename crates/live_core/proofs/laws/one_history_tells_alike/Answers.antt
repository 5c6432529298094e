-- Both show where the history leads.
use Rattle.live_core.proofs.Together.{count_alike, moment_alike}
use Rattle.live_core.proofs.laws.one_history_tells_alike.Goals as goal

pub returns-clause-count : goal.returns-clause-count
returns-clause-count c = count_alike

pub returns-clause-moment : goal.returns-clause-moment
returns-clause-moment c = moment_alike
