use Rattle.plan_read.proofs.NameLaw.{names_distinct}
use Rattle.plan_read.proofs.laws.names_differ.Goals as goal

pub returns : goal.returns
returns c = names_distinct
