use Rattle.plan_read.proofs.TreeLaw.{never_both, writes_or_fails, writes_one, fails_once}
use Rattle.plan_read.proofs.laws.trees_write_or_fail.Goals as goal

pub returns : goal.returns
returns c = record { either = writes_or_fails; never_both = never_both; one = writes_one; once = fails_once }
