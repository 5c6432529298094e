use Rattle.plan_compile.proofs.Told.{named}
use Rattle.plan_compile.proofs.laws.submissions_are_named_as_written.Goals as goal

pub returns : goal.returns
returns c = named
