use Rattle.toml.proofs.Views.{table_get}
use Rattle.plan_reasons.proofs.Belonging.{stands_like}
use Rattle.plan_reasons.proofs.scene.value_at.Goals as goal

pub returns-clause-value : goal.returns-clause-value
returns-clause-value c = table_get c.get.result c.args.key.now c.args.table.now.entries c.get.ensures.value

pub returns-clause-stands : goal.returns-clause-stands
returns-clause-stands c = stands_like c.get.result _ (table_get c.get.result c.args.key.now c.args.table.now.entries c.get.ensures.value)
