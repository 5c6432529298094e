use Rattle.plan_compile.proofs.Told.{told_alike}
use Rattle.plan_compile.proofs.laws.submissions_are_those_of_the_calls.Goals as goal

pub returns : goal.returns
returns c = told_alike
