-- The table of a number among the items of an array.
use Rattle.std.proofs.Common.{◌≡◌, ◌≢◌, ◌<◌, ◌≤◌, ◌-◌, ℕ, zero, suc, List, length, None, get_or, arith, ap, refl}
use Rattle.std.specs.Prelude.{option_and_then}
use Rattle.toml.specs.Data.{as_table}
use Rattle.toml.specs.View.{items_view, view}
use Rattle.toml.specs.declared.value.Value.{Value}
use Rattle.toml.proofs.Views.{get_item_past, get_item_within}
use Rattle.plan_warnings.specs.Units.{table_of}

-- there is none of the number 0
pub numbered_zero : (number : ℕ) (vs : List Value) → number ≡ 0 → None ≡ table_of number (items_view vs)
numbered_zero number vs none = rw none refl

-- there is none past the end
pub numbered_past : (number : ℕ) (vs : List Value) → length vs < number → None ≡ table_of number (items_view vs)
numbered_past zero vs past = refl
numbered_past (suc n) vs past = ap (option_and_then as_table) (get_item_past vs n (omega arith))

-- the one that there is
pub numbered_within : (number : ℕ) (vs : List Value) (d : Value) → number ≢ 0 → number ≤ length vs → as_table (view (get_or vs (number - 1) d)) ≡ table_of number (items_view vs)
numbered_within zero vs d other few = absurd (other refl)
numbered_within (suc n) vs d other few =
    let same : suc n - 1 ≡ n = omega arith in
    rw same (ap (option_and_then as_table) (get_item_within vs n d (omega arith)))
