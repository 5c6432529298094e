use Rattle.std.proofs.Common.{◌≡◌, sym, ap, ◌∙◌}
use Rattle.toml.specs.View.{view, members_view, table_view}
use Rattle.plan_read.specs.Migrating.{each_table}
use Rattle.plan_read.proofs.MigratingTables.{changed_absent, changed_written}
use Rattle.plan_read.proofs.migrating.change_tables_at.Goals as goal

pub returns-in_ok-value : goal.returns-in_ok-value
returns-in_ok-value g c f changes =
    let w = c.in_ok-value.field-0 in
    let is : view w ≡ each_table f (view c.in-Some.value.now) = rw c.replace-taken.ensures.value at (c.in_ok-value.ensures f changes) in
    ap members_view (c.get_mut.follows.holds w).0
    ∙ changed_written c.args.key.now (each_table f) c.args.table.now.entries c.in-Some.value.now w c.get_mut.ensures.ordered (sym c.in-Some.ensures.value) is

pub returns-in_default : goal.returns-in_default
returns-in_default g c f changes =
    ap table_view c.get_mut.follows.holds-at-none
    ∙ sym (changed_absent c.args.key.now (each_table f) c.args.table.now.entries (sym c.in_default.ensures.value))
