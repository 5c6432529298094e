use Rattle.executor_laws.proofs.KeptAlone as law
use Rattle.executor_laws.proofs.purging.purges_change_asks_alone.Goals as goal

pub returns : goal.returns
returns c = law.purges_change_asks_alone
