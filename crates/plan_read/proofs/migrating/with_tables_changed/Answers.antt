use Rattle.std.proofs.Common.{◌≡◌, ◌∷◌, [], Ok, sym, ap, ◌∙◌, length, arith}
use Rattle.std.specs.Vec.Iter.{into_iter_items, into_iter_len}
use Rattle.toml.specs.declared.value.Value.{Table as TableCase}
use Rattle.plan_read.proofs.MigratingTables.{one_more, other_kept, table_changed, nothing_left, all_changed}
use Rattle.plan_read.proofs.migrating.with_tables_changed.Goals as goal

pub loop-item-preserved-in_ok-push-in-Table : goal.loop-item-preserved-in_ok-push-in-Table
loop-item-preserved-in_ok-push-in-Table g c =
    let l = c.loop-item in
    let left = into_iter_items c.next.new.self in
    let here : into_iter_items l.item-iterator ≡ c.in-Some.item ∷ left = c.in-Some.ensures.steps.0 in
    let shorter : into_iter_len c.next.new.self ≡ length left =
    (let was = l.invariant.1 in let fewer = c.in-Some.ensures.steps.1 in let size = ap length here in omega arith) in (
      l.invariant.0,
      shorter,
      λ f changes.
          let u = c.in_ok-change-in-Table.field-0 in
          let written = changes c.in-Table.table (Ok u) c.in_ok-change-in-Table.ensures in
          rw c.in_ok-push-in-Table.ensures.items
          (one_more f _ l.changed.items (into_iter_items l.item-iterator) left c.in-Some.item (TableCase u) (l.invariant.2 f changes) here (table_changed f c.in-Some.item c.in-Table.table u c.in-Table.is written)),
    )

pub loop-item-preserved : goal.loop-item-preserved
loop-item-preserved g c =
    let l = c.loop-item in
    let left = into_iter_items c.next.new.self in
    let here : into_iter_items l.item-iterator ≡ c.in-Some.item ∷ left = c.in-Some.ensures.steps.0 in
    let shorter : into_iter_len c.next.new.self ≡ length left =
    (let was = l.invariant.1 in let fewer = c.in-Some.ensures.steps.1 in let size = ap length here in omega arith) in (
      l.invariant.0,
      shorter,
      λ f changes.
          rw c.in_ok-push-in_default-item.ensures.items
          (one_more f _ l.changed.items (into_iter_items l.item-iterator) left c.in-Some.item c.in-Some.item (l.invariant.2 f changes) here (other_kept f c.in-Some.item c.in_default-item.not-Table)),
    )

pub returns : goal.returns
returns g c f changes =
    let l = c.loop-item in
    let empty : into_iter_items l.item-iterator ≡ [] = nothing_left _ (sym l.invariant.1 ∙ c.in-None.ensures.steps.0) in
    let whole : into_iter_items c.into_iter-item-iterator.result ≡ c.in-Array.items.items = c.into_iter-item-iterator.ensures.into_iter_gives.0 in
    all_changed f c.args.value c.in-Array.items l.changed (into_iter_items c.into_iter-item-iterator.result) (into_iter_items l.item-iterator) c.in-Array.is whole empty (l.invariant.2 f changes)
