use Rattle.executor_laws.proofs.TurnLaw
use Rattle.executor_laws.proofs.turns.turns_come.Goals as goal

pub returns : goal.returns
returns c = TurnLaw.turns_come
