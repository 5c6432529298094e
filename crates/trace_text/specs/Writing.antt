-- Writing: a text that was put behind others (this project's rule).
use Rattle.std.specs.Prelude.{◌≡◌, ℕ, List, ◌++◌}

-- the bytes `old`, and behind them the text, are the bytes `new`
pub record Puts (old new text : List ℕ) : Type 0 where
  pub is : new ≡ old ++ text

-- how many bytes of room are enough for any line of a trace (this project's limit)
abbrev pub line_room : ℕ
line_room = 128
