use Rattle.sched_engine.proofs.OneText
use Rattle.sched_engine.proofs.laws.front_is_one.Goals as goal

pub returns : goal.returns
returns c = OneText.front_is_one
