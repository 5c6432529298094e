-- How an agenda keeps its place in the calls of a code. No contract cites it but through the view or the invariant of `Agenda`.
-- All of it is this project's rule.
use Rattle.std.specs.Prelude.{◌≡◌, ℕ, ◌+◌, ◌-◌, ◌≤◌, List, Option, length, drop, slice_get}
use Rattle.queue_code.specs.declared.instr.Instr.{Instr}
use Rattle.queue_code.specs.declared.cursor.Cursor.{Cursor}
use Rattle.queue_code.specs.Calls.{Planned}
use Rattle.queue_code.specs.Agendas.{Course}
use Rattle.queue_code.specs.Codes.{calls_of}
use Rattle.queue_code.specs.Cursors.{IsCursorOf, calls_left}

-- how many calls of a code were made, where this many are left
abbrev pub made_of : List Instr → ℕ → ℕ
made_of code left = length (calls_of code) - left

-- the calls of a code, of which this many are left
abbrev pub course_of : List Instr → ℕ → Course
course_of code left = record { items = calls_of code; made = made_of code left }

-- this many calls of a code are left, this is the next one, and the cursor is behind it
pub record IsAhead (code : List Instr) (c : Cursor) (next : Option Planned) (left : ℕ) : Type 0 where
  pub cursor : IsCursorOf code c
  pub within : left ≤ length (calls_of code)
  pub first : next ≡ slice_get (calls_of code) (made_of code left)
  pub behind : calls_left code c ≡ drop (made_of code left + 1) (calls_of code)
