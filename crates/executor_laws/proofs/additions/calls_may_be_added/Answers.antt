use Rattle.executor_laws.proofs.Adding
use Rattle.executor_laws.proofs.additions.calls_may_be_added.Goals as goal

pub returns : goal.returns
returns c = Adding.calls_may_be_added
