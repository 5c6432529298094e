use Rattle.plan_compile.proofs.Told.{numbered}
use Rattle.plan_compile.proofs.laws.submissions_are_numbered_in_order.Goals as goal

pub returns : goal.returns
returns c = numbered
