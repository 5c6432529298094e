use Rattle.executor_laws.proofs.Places
use Rattle.executor_laws.proofs.positions.now_is_the_greatest.Goals as goal

pub returns : goal.returns
returns c = Places.now_is_the_greatest
