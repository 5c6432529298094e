use Rattle.sched_engine.proofs.OneText
use Rattle.sched_engine.proofs.laws.events_are_one.Goals as goal

pub returns : goal.returns
returns c = OneText.events_are_one
