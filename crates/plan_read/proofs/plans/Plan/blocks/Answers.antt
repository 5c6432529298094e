use Rattle.plan_read.proofs.OrderLaw.{plan_ordered}
use Rattle.plan_read.proofs.plans.Plan.blocks.Goals as goal

pub returns-clause-ordered : goal.returns-clause-ordered
returns-clause-ordered g c = rw (← c.self.view_is) (plan_ordered c.self.invariant.0 c.self.inside.blocks.items c.self.invariant.1)
