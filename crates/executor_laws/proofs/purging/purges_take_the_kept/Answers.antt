use Rattle.executor_laws.proofs.KeptAlone as law
use Rattle.executor_laws.proofs.purging.purges_take_the_kept.Goals as goal

pub returns : goal.returns
returns c = law.purges_take_the_kept
