use Rattle.plan_read.proofs.OrderLaw.{cancels_aimed}
use Rattle.plan_read.proofs.laws.targets_stand_before.Goals as goal

pub returns : goal.returns
returns c = cancels_aimed
