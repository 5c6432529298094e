use Rattle.std.proofs.Common.{◌≡◌, Option, None, Some, is_some, ap}
use Rattle.std.specs.Borrow.{Bor}
use Rattle.std.specs.Prelude.{option_map}
use Rattle.toml.proofs.Views.{table_get}
use Rattle.toml.specs.Data.{Data}
use Rattle.toml.specs.View.{view}
use Rattle.toml.specs.declared.value.Value.{Value}
use Rattle.plan_warnings.proofs.units.value_at.Goals as goal

stands_like : (r : Option (Bor Value)) (o : Option Data) → option_map (λ v. view v.now) r ≡ o → is_some r ≡ is_some o
stands_like None o e = ap is_some e
stands_like (Some v) o e = ap is_some e

pub returns-clause-value : goal.returns-clause-value
returns-clause-value c = table_get c.get.result c.args.key.now c.args.table.now.entries c.get.ensures.value

pub returns-clause-stands : goal.returns-clause-stands
returns-clause-stands c = stands_like c.get.result _ (table_get c.get.result c.args.key.now c.args.table.now.entries c.get.ensures.value)
