-- Tests on the keys of a table and on the items of an array.
use Rattle.std.proofs.Common.{◌≡◌, ◌&&◌, List, [], ◌∷◌, length, refl, ap, arith}
use Rattle.std.specs.List.{list_all}
use Rattle.std.specs.Prelude.{is_some}
use Rattle.toml.specs.Data.{as_table}
use Rattle.toml.specs.View.{view, items_view}
use Rattle.toml.specs.declared.value.Value.{Value}
use Rattle.plan_read.specs.Keys.{are_tables}
use Rattle.plan_read.specs.own.Values.{tables_in}

-- to test the items of an array one by one is to test the array
pub are_tables_items : (vs : List Value) → list_all (λ v. is_some (as_table (view v))) vs ≡ are_tables (items_view vs)
are_tables_items [] = refl
are_tables_items (v ∷ vs) = ap (λ b. is_some (as_table (view v)) && b) (are_tables_items vs)

-- there are as many tables as items
pub count_of_tables : (vs : List Value) → length (tables_in (items_view vs)) ≡ length vs
count_of_tables [] = refl
count_of_tables (v ∷ vs) = omega (arith, count_of_tables vs)
