-- Refusals: lines that say why a file is refused. All of it is this project's rule.
use Rattle.std.specs.Prelude.{◌≡◌, ℕ, ◌+◌, ◌++◌, List, length, codes}
use Rattle.std.specs.List.{before_first, position_or_len}
use Rattle.trace_reasons.specs.Standing.{is_newline}

-- the last byte is a newline, and no other one is
abbrev pub IsOneLine : List ℕ → Type 0
IsOneLine line = position_or_len is_newline line + 1 ≡ length line

-- what stands before the first newline of a text, as a line
abbrev pub front_line : List ℕ → List ℕ
front_line text = before_first is_newline text ++ codes "\n"
