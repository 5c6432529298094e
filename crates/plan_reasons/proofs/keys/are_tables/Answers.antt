use Rattle.std.proofs.Common.{◌∙◌, is_some, rules, tests}
use Rattle.std.proofs.lemmas.Iterator.{YieldsList-from_slice}
use Rattle.std.proofs.lemmas.Iterator.Search.{all_from_yields_List}
use Rattle.toml.specs.Data.{as_table}
use Rattle.toml.specs.View.{view}
use Rattle.plan_read.proofs.TableTests.{are_tables_items}
use Rattle.plan_reasons.proofs.keys.are_tables.Goals as goal

pub returns : goal.returns
returns c =
    all_from_yields_List (λ value. is_some (as_table (view value))) _ _ c.all.result c.all.ensures.ran (YieldsList-from_slice c.args.values.now cc) (λ x b q k. search (rules, tests))
    ∙ are_tables_items c.args.values.now
