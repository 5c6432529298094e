-- What two files have, and what opening makes of them (this project's rule).
use Rattle.std.specs.Prelude.{◌≡◌, ℕ, ◌+◌, ◌<◌, MatchBool, true, false, List, Option, None, Some}
use Rattle.line_journal.specs.declared.half.Half.{Half}
use Rattle.line_journal.specs.declared.parts.Parts.{Parts}
use Rattle.line_journal.specs.Halves.{IsInFile, IsHalfOf}
use Rattle.line_journal.specs.Parts.{Part, Has, IsOlder}
use Rattle.line_journal.specs.Resting.{IsAtRest}

abbrev pub AreInFile : Parts → Type 0
AreInFile parts = IsInFile parts.last × IsInFile parts.before

-- of what two files are read as the later one is the last
abbrev pub IsChosen : Option Half → Option Half → Option Parts → Type 0
IsChosen None None None = Unit
IsChosen (Some x) None (Some parts) = (parts.last ≡ x) × (parts.is_second ≡ false)
IsChosen None (Some y) (Some parts) = (parts.last ≡ y) × (parts.is_second ≡ true)
IsChosen (Some x) (Some y) (Some parts) = MatchBool parts.is_second ((parts.last ≡ y) × (x.head.turn < y.head.turn)) ((parts.last ≡ x) × (y.head.turn < x.head.turn))
IsChosen _ _ _ = ⊥

-- the one file has this part, and the other one is older
pub record IsLastIn (file other : List ℕ) (half : Half) (part : Part) : Type 0 where
  pub has : Has file part
  pub tells : IsHalfOf half part
  pub older : IsOlder other part.head.turn

abbrev pub IsLastOf : List ℕ → List ℕ → Parts → Part → Type 0
IsLastOf first second parts part = MatchBool parts.is_second (IsLastIn second first parts.last part) (IsLastIn first second parts.last part)

-- the last file is at rest and has this part, and whatever a crash leaves of the other one is older
pub record StandsOn {D : Type 0} (seen : D → List ℕ) (may_leave : D → List ℕ → Type 0) (current other : D) (last : Half) (limit : ℕ) (part : Part) : Type 0 where
  pub has : Has (seen current) part
  pub half : IsHalfOf last part
  pub rest : IsAtRest seen may_leave current (64 + part.head.text) part.groups last.groups.end limit
  pub older : (c : List ℕ) → may_leave other c → IsOlder c part.head.turn

abbrev pub IsOpenedAs : {D : Type 0} → (D → List ℕ) → (D → List ℕ → Type 0) → D → D → Parts → Part → Type 0
IsOpenedAs seen may_leave first second parts part =
    MatchBool parts.is_second (StandsOn seen may_leave second first parts.last (parts.last.groups.end + 131072) part) (StandsOn seen may_leave first second parts.last (parts.last.groups.end + 131072) part)
