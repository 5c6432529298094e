use Rattle.live_engine.proofs.NotedPlans.{noted_may}
use Rattle.live_engine.proofs.laws.noted_calls_may_be_planned.Goals as goal

pub returns : goal.returns
returns c = noted_may
