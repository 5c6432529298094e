-- Texts of lines of one kind, and the first line of a text that is of another. A kind is a type of values, the line that each
-- spells, and which of them fit. All of it is this project's rule.
use Rattle.std.specs.Prelude.{◌≡◌, ℕ, ◌+◌, ◌<◌, ◌⊎◌, List, [], ◌++◌, All, length, codes, flat_map}
use Rattle.trace_text.specs.Reading.{IsUnread}
use Rattle.trace_text.specs.Spelling.{IsLine}

-- a text is that of some lines
abbrev pub AreLines : {V : Type 0} → (V → List ℕ) → (V → Type 0) → List ℕ → Type 0
AreLines {V} spell fits text = (values : List V) × All fits values × (text ≡ flat_map spell values)

-- a line has one newline, which is its last byte
abbrev pub IsEnded : List ℕ → Type 0
IsEnded line = (front : List ℕ) × IsLine front × (line ≡ front ++ codes "\n")

-- the line at the front of some bytes: it ends with the first newline, or all bytes are the line where there is none
abbrev pub IsFirstLine : List ℕ → List ℕ → Type 0
IsFirstLine line bytes = (rest : List ℕ) × (bytes ≡ line ++ rest) × (IsEnded line ⊎ (IsLine line × (rest ≡ [])))

-- the first line of a text that is of another kind, and its number, counted from 1
pub record IsFirstOtherThan {V : Type 0} (spell : V → List ℕ) (fits : V → Type 0) (text : List ℕ) (number : ℕ) (line : List ℕ) : Type 0 where
  -- what the lines before it spell
  pub values : List V
  pub fit : All fits values
  -- it, and what follows
  pub rest : List ℕ
  pub spelled : text ≡ flat_map spell values ++ rest
  pub counted : number ≡ length values + 1
  pub none : IsUnread spell fits rest
  pub some : 0 < length rest
  pub first : IsFirstLine line rest
