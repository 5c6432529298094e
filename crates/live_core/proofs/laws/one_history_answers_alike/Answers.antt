-- Each answer is that of the history.
use Rattle.live_core.proofs.Together.{calls_alike, events_alike}
use Rattle.live_core.proofs.laws.one_history_answers_alike.Goals as goal

pub returns-clause-calls : goal.returns-clause-calls
returns-clause-calls c = calls_alike

pub returns-clause-events : goal.returns-clause-events
returns-clause-events c = events_alike
