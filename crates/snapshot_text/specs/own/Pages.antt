-- What was given out of a page.
-- All of it is this project's rule.
use Rattle.std.specs.Prelude.{◌≡◌, ℕ, ◌+◌, ◌≤◌, Bool, true, false, List, ◌++◌, Option, length, take}
use Rattle.std.specs.Io.KnownBytes.{Appends}
use Rattle.snapshot_text.specs.Sums.{sum_of}
use Rattle.snapshot_text.specs.declared.page.TheConstants.{LINE_ROOM, PAGE}

-- what contracts see of a page: its text, and the sum of what was given out before
pub record PageView : Type 0 where
  pub text : List ℕ
  pub sum : ℕ

-- a text was given out through a page: a front of it was written, whose sum the page has, and the rest stands in the page
pub record IsGiven (old new : Option (List ℕ)) (page : PageView) (text : List ℕ) : Type 0 where
  pub written : List ℕ
  pub appends : Appends old new written
  pub is : text ≡ written ++ page.text
  pub sum : page.sum ≡ sum_of written

-- `true`: a text was given out, behind which there may be more; `false`: a front of it was written
abbrev pub GivesOut : Bool → Option (List ℕ) → Option (List ℕ) → PageView → List ℕ → Type 0
GivesOut true old new page text = IsGiven old new page text
GivesOut false old new page text = (n : ℕ) × (n ≤ length text) × Appends old new (take n text)

-- a page has room for a line
abbrev pub HasRoom : PageView → Type 0
HasRoom page = length page.text + LINE_ROOM ≤ PAGE
