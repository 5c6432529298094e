use Rattle.std.proofs.Common.{◌≡◌, ◌∙◌, sym, refl, true, false, is_some}
use Rattle.toml.specs.Data.{get_member}
use Rattle.toml.specs.View.{table_view}
use Rattle.plan_read.proofs.MigratingTables.{has_member}
use Rattle.plan_read.proofs.migrating.put_beside.Goals as goal

pub returns-then-not-contains_key : goal.returns-then-not-contains_key
returns-then-not-contains_key c =
    let gone : is_some (get_member c.args.time.now (table_view c.args.table.now)) ≡ false =
    has_member c.args.time.now c.args.table.now.entries ∙ (sym c.contains_key.ensures ∙ c.if-not-contains_key.true) in
    rw gone refl

pub returns : goal.returns
returns c =
    let there : is_some (get_member c.args.time.now (table_view c.args.table.now)) ≡ true =
    has_member c.args.time.now c.args.table.now.entries ∙ (sym c.contains_key.ensures ∙ c.if-not-contains_key.false) in
    rw there (rw c.in_ok-string.ensures at c.insert.ensures)
