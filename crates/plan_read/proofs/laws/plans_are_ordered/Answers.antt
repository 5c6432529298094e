use Rattle.plan_read.proofs.OrderLaw.{plan_ordered}
use Rattle.plan_read.proofs.laws.plans_are_ordered.Goals as goal

pub returns : goal.returns
returns c = plan_ordered
