-- Lists that are cut into groups. All of it is this project's rule.
use Rattle.std.specs.Prelude.{ℕ, Bool, if◌then◌else◌, List, [], ◌∷◌, ◌++◌}

-- the groups of items behind one that is begun: an item that joins it goes to it, and one that does not begins the next
abbrev pub groups_from : {X : Type 0} → (List X → X → Bool) → List X → List X → List (List X)
groups_from joins group [] = group ∷ []
groups_from joins group (x ∷ later) = if joins group x then groups_from joins (group ++ x ∷ []) later else group ∷ groups_from joins (x ∷ []) later

-- the groups of items: the first item begins the first
abbrev pub groups_of : {X : Type 0} → (List X → X → Bool) → List X → List (List X)
groups_of joins [] = []
groups_of joins (first ∷ later) = groups_from joins (first ∷ []) later

-- a number of the first item of a group, and 0 where there is none
abbrev pub of_first : {X : Type 0} → (X → ℕ) → List X → ℕ
of_first f [] = 0
of_first f (first ∷ more) = f first
