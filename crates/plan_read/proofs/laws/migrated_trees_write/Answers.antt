use Rattle.plan_read.proofs.MigratedTrees.{tree_migrated}
use Rattle.plan_read.proofs.laws.migrated_trees_write.Goals as goal

pub returns : goal.returns
returns c = tree_migrated
