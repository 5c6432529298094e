-- What stands at a line of a text, and what could stand there. All of it is this project's rule.
use Rattle.std.specs.Prelude.{◌≡◌, ℕ, ◌+◌, ◌-◌, ◌<◌, ◌==◌, ◌↔◌, Bool, List, zero, suc, ◌++◌, length, take, nat_eq, if◌then◌else◌, Option, None, Some}
use Rattle.std.specs.List.{Contains, after_first, position_or_len}
use Rattle.std.specs.List.Sorted.{IsStrictlyIncreasing}
use Rattle.queue_code.specs.Calls.{Planned}
use Rattle.executor_model.specs.Counts.{IsWorkerCount}
use Rattle.executor_model.specs.declared.Line.{Line}
use Rattle.trace_text.specs.Spelling.{FitsLine, line_text}
use Rattle.trace_check.specs.Findings.{Conforms, Finds}
use Rattle.trace_check.specs.declared.finding.Finding.{Finding}
use Rattle.trace_check.specs.declared.finding.Finding.TheVariants as f

-- a byte ends a line
abbrev pub is_newline : ℕ → Bool
is_newline byte = byte == 10

-- the first line of a text, with its newline where it has one
abbrev pub first_line : List ℕ → List ℕ
first_line text = take (position_or_len is_newline text + 1) text

-- what stands behind the first `count` lines of a text
abbrev pub behind_lines : ℕ → List ℕ → List ℕ
behind_lines zero text = text
behind_lines (suc count) text = after_first is_newline (behind_lines count text)

-- the lines of a text before line n, counted from 1
abbrev pub lines_before : ℕ → List ℕ → List ℕ
lines_before n text = take (length text - length (behind_lines (n - 1) text)) text

-- line n of a text, counted from 1, with its newline where it has one; none where the text ends before it
abbrev pub line_at : ℕ → List ℕ → Option (List ℕ)
line_at n text = if nat_eq (length (behind_lines (n - 1) text)) 0 then None else Some (first_line (behind_lines (n - 1) text))

-- some bytes are the text of a line that fits
pub record IsLineText (bytes : List ℕ) : Type 0 where
  pub line : Line
  pub fits : FitsLine line
  pub spelled : bytes ≡ line_text line

-- a fault is told of some bytes where they are no text of a line that fits, and else none
abbrev pub IsFaultOf : {F : Type 0} → Option F → List ℕ → Type 0
IsFaultOf None bytes = IsLineText bytes
IsFaultOf (Some fault) bytes = IsLineText bytes → ⊥

-- the same of what stands at a line; none is told where the text ends before it
abbrev pub IsFaultAt : {F : Type 0} → Option F → Option (List ℕ) → Type 0
IsFaultAt fault None = fault ≡ None
IsFaultAt fault (Some bytes) = IsFaultOf fault bytes

-- a text breaks behind line n, if at all
abbrev pub IsBehind : ℕ → Finding → Type 0
IsBehind n f.Conforms = Unit {0}
IsBehind n (f.Breaks m) = n < m

-- a line could stand as line n of a text: the lines before it, with this one behind them, break behind it, if at all
pub record CouldStand (calls : List Planned) (workers : ℕ) (text : List ℕ) (n : ℕ) (line : Line) : Type 0 where
  pub finding : Finding
  pub finds : Finds calls workers (lines_before n text ++ line_text line) finding
  pub behind : IsBehind n finding

-- these are the numbers of workers with which a text conforms, in ascending order
pub record AreConforming (calls : List Planned) (text : List ℕ) (numbers : List ℕ) : Type 0 where
  pub conform : (workers : ℕ) → Contains numbers workers ↔ (IsWorkerCount workers × Conforms calls workers text)
  pub ascending : IsStrictlyIncreasing numbers
