use Rattle.std.proofs.Common.{◌≡◌, IfOk, length}
use Rattle.std.specs.Vec.Iter.{into_iter_items, into_iter_len}
use Rattle.toml.specs.Data.{Members}
use Rattle.toml.specs.View.{table_view, items_view}
use Rattle.plan_read.specs.Migrating.{each_item}
use Rattle.plan_read.proofs.MigratingTables.{joined}
use Rattle.plan_read.proofs.migrating.with_tables_changed.Given as goal

abbrev pub invariant-loop-item : goal.invariant-loop-item
invariant-loop-item g l =
    goal.F-IsAlwaysCallable g l.change
    × (into_iter_len l.item-iterator ≡ length (into_iter_items l.item-iterator))
    × ((f : Members → Members) → ((t : _) (r : _) → goal.F-post g l.change t r → IfOk r (λ u. table_view u ≡ f (table_view t)))
    → joined (items_view l.changed.items) (each_item f (items_view (into_iter_items l.item-iterator))) ≡ each_item f (items_view (into_iter_items l.initial.item-iterator)))
