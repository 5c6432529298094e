use Rattle.std.proofs.Common.{codes}
use Rattle.plan_read.proofs.MigratingTables.{text_found, text_missing}
use Rattle.plan_read.proofs.migrating.unit_of_block.Goals as goal

pub returns-in-Some : goal.returns-in-Some
returns-in-Some c = text_found (codes "unit") c.args.block.now.entries c.in-Some.value.now _ c.in-Some.ensures.value c.as_str.ensures

pub returns-in-None : goal.returns-in-None
returns-in-None c = text_missing (codes "unit") c.args.block.now.entries c.in-None.ensures.value
