use Rattle.plan_compile.proofs.Ordering.{plan_orderly}
use Rattle.plan_compile.proofs.laws.calls_are_in_order.Goals as goal

pub returns : goal.returns
returns c = λ text plan writes. plan_orderly plan (c.plans_are_ordered.ensures writes.tree plan writes.writes)
