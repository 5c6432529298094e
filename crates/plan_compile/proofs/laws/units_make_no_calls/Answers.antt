use Rattle.plan_compile.proofs.Units.{same_calls}
use Rattle.plan_compile.proofs.laws.units_make_no_calls.Goals as goal

pub returns : goal.returns
returns c = same_calls
