use Rattle.std.proofs.Common.{◌≡◌, IfOk, None, codes, sym, ap, ◌∙◌, subst, rules}
use Rattle.std.specs.Map.{lookup}
use Rattle.toml.specs.Data.{Members}
use Rattle.toml.specs.View.{table_view, members_view}
use Rattle.plan_read.specs.Migrating.{without, beside_times, migrated_block}
use Rattle.plan_read.proofs.MigratingTables.{at_key, removed, block_of_unit}
use Rattle.plan_read.proofs.migrating.migrated_block.Goals as goal

pub returns : goal.returns
returns c =
    let members = table_view c.args.block in
    let word = c.as_str-word.result.now in
    let same : word ≡ c.in-Some.word.now = c.as_str-word.ensures.value ∙ c.in_ok-word.ensures.ok in
    let none : lookup (at_key (codes "unit")) c.remove.new.self.entries ≡ None = c.remove.ensures.updates.1 in
    let bare : table_view c.remove.new.self ≡ without (codes "unit") members =
    ap members_view c.remove.ensures.entries ∙ removed (codes "unit") c.args.block.entries (rw c.remove.ensures.entries at none) in
    let called = c.in_ok-change_tables_at.ensures (beside_times word) (λ t r p. search rules) in
    let whole : beside_times word (table_view c.change_tables_at.new.table) ≡ migrated_block members =
    block_of_unit members _ _ word (rw same (sym c.in-Some.ensures)) bare called in
    subst (λ (ms : Members). IfOk c.with_units.result (λ t. table_view t ≡ ms)) whole c.with_units.ensures
