use Rattle.std.proofs.Common.{◌≡◌, ◌∙◌, sym, refl, true}
use Rattle.std.proofs.lemmas.Result.{err_from_is_err_and}
use Rattle.toml.specs.View.{table_view}
use Rattle.plan_read.specs.declared.versions.Version.TheVariants.{One, Two}
use Rattle.plan_read.specs.own.Plain.{members_are_plain}
use Rattle.plan_read.specs.own.Texts.{tree_at}
use Rattle.plan_read.specs.own.Values.{version_at}
use Rattle.plan_read.proofs.MigratingText.{document_fails, tree_fails, memory_fails, not_again, printed_as}
use Rattle.plan_read.proofs.PlainMigrated.{plain_migrated}
use Rattle.plan_read.proofs.migrating.migrate_text.Goals as goal

pub returns-in_err-tree : goal.returns-in_err-tree
returns-in_err-tree g c =
    let q = err_from_is_err_and c.from_residual.result c.from_residual.ensures.1 in
    document_fails c.args.text.now c.from_residual.result c.in_err-tree.field-0.0 (q.1 ∙ rw q.2 refl) c.in_err-tree.ensures

pub returns-in_err-read_tree : goal.returns-in_err-read_tree
returns-in_err-read_tree g c =
    let q = err_from_is_err_and c.from_residual-in_err-read_tree.result c.from_residual-in_err-read_tree.ensures.1 in
    tree_fails c.args.text.now c.from_residual-in_err-read_tree.result c.in_err-read_tree.field-0.0 (q.1 ∙ rw q.2 refl) c.in_ok-tree.ensures.0 (rw c.in_ok-tree.ensures.1 at c.in_err-read_tree.ensures.plan)

pub returns-in_err-migrated_tree-in-One : goal.returns-in_err-migrated_tree-in-One
returns-in_err-migrated_tree-in-One g c =
    let q = err_from_is_err_and c.from_residual-in_err-migrated_tree-in-One.result c.from_residual-in_err-migrated_tree-in-One.ensures.1 in
    memory_fails c.args.text.now c.from_residual-in_err-migrated_tree-in-One.result q.0 q.1 q.2

pub print-requires : goal.print-requires
print-requires g c = rw c.in_ok-migrated_tree-in-One.ensures (plain_migrated (table_view c.in_ok-tree.tree) c.in_ok-read_tree.ensures.plain)

pub returns-in_ok-migrated_tree-in-One : goal.returns-in_ok-migrated_tree-in-One
returns-in_ok-migrated_tree-in-One g c =
    let is = c.in_ok-tree.ensures.1 in
    let version : One ≡ version_at (tree_at c.args.text.now) = sym c.in-One.is ∙ rw is at c.in_ok-read_tree.ensures.version in
    let plain : members_are_plain 4 (table_view c.in_ok-migrated_tree-in-One.field-0) ≡ true = rw c.in_ok-migrated_tree-in-One.ensures (plain_migrated (table_view c.in_ok-tree.tree) c.in_ok-read_tree.ensures.plain) in
    printed_as c.args.text.now c.print.result (table_view c.in_ok-migrated_tree-in-One.field-0) c.in_ok-tree.ensures.0 (rw is at c.in_ok-read_tree.ensures.plan.0) version (rw is at c.in_ok-migrated_tree-in-One.ensures) plain c.print.ensures

pub returns-in-Two : goal.returns-in-Two
returns-in-Two g c =
    let is = c.in_ok-tree.ensures.1 in
    let version : Two ≡ version_at (tree_at c.args.text.now) = sym c.in-Two.is ∙ rw is at c.in_ok-read_tree.ensures.version in
    rw (c.fault.ensures, c.top.ensures) (not_again c.args.text.now _ c.in_ok-tree.ensures.0 (rw is at c.in_ok-read_tree.ensures.plan.0) version refl)
