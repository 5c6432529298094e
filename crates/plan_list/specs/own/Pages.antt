-- What was given out of a page.
-- All of it is this project's rule.
use Rattle.std.specs.Prelude.{◌≡◌, ℕ, ◌+◌, ◌≤◌, Bool, true, false, List, ◌++◌, Option, length, take}
use Rattle.std.specs.Io.KnownBytes.{Appends}
use Rattle.plan_list.specs.declared.page.TheConstants.{PAGE, TASK_LINE_ROOM}

-- `true`: a front of the page was written, and behind the rest there is room for a line; `false`: a front of it was written
abbrev pub MakesRoom : Bool → Option (List ℕ) → List ℕ → Option (List ℕ) → List ℕ → Type 0
MakesRoom true old page new page' = (written : List ℕ) × Appends old new written × (page ≡ written ++ page') × (length page' + TASK_LINE_ROOM ≤ PAGE)
MakesRoom false old page new page' = (n : ℕ) × (n ≤ length page) × Appends old new (take n page)
