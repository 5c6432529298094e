-- A snapshot and the groups behind it, as a file is read.
use Rattle.std.specs.Prelude.{◌≡◌, ℕ, ◌+◌, ◌≤◌, ◌^◌, List, length, Option, None, Some}
use Rattle.line_journal.specs.Groups.{frames, lines_of}
use Rattle.line_journal.specs.Fronts.{IsShut}
use Rattle.line_journal.specs.Parts.{Part, Has}
use Rattle.line_journal.specs.declared.half.Half.{Half}

-- the groups begin behind the text, and end where a file may
pub record IsInFile (half : Half) : Type 0 where
  pub behind : 64 + half.head.text ≤ half.groups.end
  pub small : half.groups.end ≤ 2 ^ 41

-- what is told of a part
pub record IsHalfOf (half : Half) (part : Part) : Type 0 where
  pub head : half.head ≡ part.head
  pub ends : half.groups.end ≡ 64 + part.head.text + length (frames part.groups)
  pub lines : half.groups.lines ≡ lines_of part.groups

-- what a file is read as
abbrev pub IsReadAs : List ℕ → Option Half → Type 0
IsReadAs file None = IsShut file
IsReadAs file (Some half) = (part : Part) × Has file part × IsHalfOf half part
