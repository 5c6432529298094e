-- Lines of one kind that stand one behind the other.
-- All of it is this project's rule.
use Rattle.std.specs.Prelude.{◌≡◌, ℕ, List, ◌++◌, flat_map}
use Rattle.std.specs.List.{All}
use Rattle.trace_text.specs.Reading.{IsUnread}

-- these values are spelled at the front, and no further one
pub record AreRead {V : Type 0} (spell : V → List ℕ) (fits : V → Type 0) (text : List ℕ) (values : List V) (rest : List ℕ) : Type 0 where
  pub fit : All fits values
  pub spelled : text ≡ flat_map spell values ++ rest
  pub none : IsUnread spell fits rest

-- these values are spelled at the front, and this rest is left
pub record AreFirst {V : Type 0} (spell : V → List ℕ) (fits : V → Type 0) (text : List ℕ) (values : List V) (rest : List ℕ) : Type 0 where
  pub fit : All fits values
  pub spelled : text ≡ flat_map spell values ++ rest
