-- For crates above: what a seat knows after a step, read task by task.
use Rattle.std.proofs.Common.{◌≡◌, ◌≢◌, ℕ, ◌<◌, ◌≤◌, zero, suc, List, [], ◌∷◌, length, slice_index, arith, length-set, get_or-set_same, get_or-set_other}
use Rattle.std.proofs.Math.Nat.{le-max_left, le-max_right}
use Rattle.task_word.specs.Words.{Parts, vacant_word}
use Rattle.task_word.specs.Views.{entry, with_entry, greater}
use Rattle.task_word.specs.declared.views.CoreSeatView.{CoreSeatView}

-- the entry that was set is the word given
pub entry_here : (v : CoreSeatView) (k : ℕ) (w : Parts) → k < length v.entries → entry (with_entry v k w) k ≡ w
entry_here v k w lt = get_or-set_same v.entries k w vacant_word lt

-- the entries of the other tasks stay as they were
pub entry_other : (v : CoreSeatView) (k j : ℕ) (w : Parts) → j ≢ k → entry (with_entry v k w) j ≡ entry v j
entry_other v k j w other = get_or-set_other v.entries k j w vacant_word other

-- the core has as many entries as before
pub entry_count : (v : CoreSeatView) (k : ℕ) (w : Parts) → length (with_entry v k w).entries ≡ length v.entries
entry_count v k w = length-set v.entries k w

-- after a join the core's ranks are not below those that it had
pub greater_left : (xs ys : List ℕ) (k : ℕ) → slice_index xs k ≤ slice_index (greater xs ys) k
greater_left [] ys k = omega arith
greater_left (x ∷ xs) [] k = omega arith
greater_left (x ∷ xs) (y ∷ ys) zero = le-max_left x y
greater_left (x ∷ xs) (y ∷ ys) (suc k) = greater_left xs ys k

-- nor those of the handle
pub greater_right : (xs ys : List ℕ) (k : ℕ) → slice_index ys k ≤ slice_index (greater xs ys) k
greater_right [] ys k = omega arith
greater_right (x ∷ xs) [] k = omega arith
greater_right (x ∷ xs) (y ∷ ys) zero = le-max_right x y
greater_right (x ∷ xs) (y ∷ ys) (suc k) = greater_right xs ys k
