use Rattle.plan_read.specs.Migrating.{in_nanoseconds}
use Rattle.plan_compile.proofs.laws.migrated_trees_call_the_same.Goals as goal

pub returns : goal.returns
returns c = λ ms plan w. (in_nanoseconds plan, c.migrated_trees_write.ensures ms plan w, c.units_make_no_calls.ensures plan)
