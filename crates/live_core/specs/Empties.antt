-- Which slots of a table are empty.
-- All of it is this project's rule.
use Rattle.std.specs.Prelude.{◌≡◌, ℕ, ◌+◌, ◌<◌, ◌==◌, Bool, true, false, List, [], ◌∷◌, length, map, Option, None, slice_index_or, is_some}
use Rattle.std.specs.Option.{option_map}
use Rattle.std.specs.List.{list_any}
use Rattle.queue_code.specs.Calls.{how_many}
use Rattle.task_table.specs.declared.seat.Seat.{Seat}

-- the numbers of the tasks in the slots
abbrev pub held_numbers : List (Option Seat) → List (Option ℕ)
held_numbers slots = map (option_map (λ x. x.number)) slots

-- the number of the task in a slot, and none where it is empty or there is no such slot
abbrev pub number_in : List (Option ℕ) → ℕ → Option ℕ
number_in held i = slice_index_or held i None

-- a slot is one of some
abbrev pub is_among : ℕ → List ℕ → Bool
is_among i slots = list_any (λ j. j == i) slots

-- each is one of some slots once
abbrev pub AreOnce : List ℕ → Type 0
AreOnce [] = Unit {0}
AreOnce (i ∷ slots) = (is_among i slots ≡ false) × AreOnce slots

-- these are the empty slots: each once, and together with the tasks in slots they are as many as there are slots
pub record AreEmpty (held : List (Option ℕ)) (free : List ℕ) : Type 0 where
  pub within : (i : ℕ) → is_among i free ≡ true → i < length held
  pub empty : (i : ℕ) → is_among i free ≡ true → number_in held i ≡ None
  pub once : AreOnce free
  pub count : length free + how_many is_some held ≡ length held
