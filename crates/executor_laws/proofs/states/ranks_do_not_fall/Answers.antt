use Rattle.executor_laws.proofs.WordRanks
use Rattle.executor_laws.proofs.states.ranks_do_not_fall.Goals as goal

pub returns : goal.returns
returns c = WordRanks.ranks_do_not_fall
