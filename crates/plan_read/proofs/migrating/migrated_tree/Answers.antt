use Rattle.std.proofs.Common.{◌≡◌, codes, pos, ap, ◌∙◌, rules}
use Rattle.toml.specs.Data.{integer}
use Rattle.toml.specs.View.{table_view}
use Rattle.toml.proofs.Views.{view-Integer}
use Rattle.plan_read.specs.Migrating.{with_member, changed_at, each_table, migrated_block}
use Rattle.plan_read.proofs.migrating.migrated_tree.Goals as goal

pub returns : goal.returns
returns c =
    let members = table_view c.args.tree in
    let numbered : table_view c.insert.new.table ≡ with_member (codes "version") (integer (pos 2)) members =
    c.in_ok-insert.ensures ∙ ap (λ d. with_member (codes "version") d members) (view-Integer (pos 2)) in
    c.in_ok-change_tables_at.ensures migrated_block (λ t r p. search rules)
    ∙ ap (changed_at (codes "block") (each_table migrated_block)) numbered
