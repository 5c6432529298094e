-- Lines and columns of a text, counted from 1.
use Rattle.std.specs.Prelude.{◌≤◌, ℕ, ◌+◌, Bool, not, if◌then◌else◌, List, [], ◌∷◌, nat_eq, count_by, bit_and}

-- the byte that ends a line
abbrev pub newline : ℕ
newline = 10

-- how many lines a text has, and the line of what follows it
abbrev pub line_after : List ℕ → ℕ
line_after text = 1 + count_by (nat_eq newline) text

-- a line of a text
pub record IsLineOf (text : List ℕ) (line : ℕ) : Type 0 where
  pub least : 1 ≤ line
  pub most : line ≤ line_after text

-- a byte of UTF-8 is the first one of its character
abbrev pub begins_character : ℕ → Bool
begins_character byte = not (nat_eq (bit_and byte 192) 128)

-- the column behind a byte, where that byte has the column `column`: each character takes one, and so its first byte does
abbrev pub column_behind : ℕ → ℕ → ℕ
column_behind column byte =
    if nat_eq byte newline then 1 else
    (if begins_character byte then column + 1 else column)

-- the column of what follows a text, where the text begins in the column `column`
abbrev pub column_from : ℕ → List ℕ → ℕ
column_from column [] = column
column_from column (byte ∷ text) = column_from (column_behind column byte) text

-- the column of what follows a text
abbrev pub column_after : List ℕ → ℕ
column_after text = column_from 1 text
