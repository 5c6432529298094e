-- Beside `specs/Pieces`: what only private contracts and proofs cite.
-- All of it is this project's rule.
use Rattle.std.specs.Prelude.{ℕ, ◌+◌, ◌≤◌, Bool, true, false, [], Option, Some, None, length, take}
use Rattle.std.specs.Io.KnownBytes.{Appends}
use Rattle.trace_text.specs.declared.line_text.TheConstants.{LINE_ROOM}
use Rattle.byte_ends.specs.declared.held.TheConstants.{PIECE}
use Rattle.byte_ends.specs.Ends.{AllGood, LastBad}
use Rattle.sched_engine.specs.Pieces.{Gives, Output}

-- `Some n`: n lines were given out, and each try of the writer was good; `None`: the last was bad
abbrev pub CountsLines : Option ℕ → ℕ → ℕ → ℕ → ℕ → Type 0
CountsLines (Some n) failed fruitless failed' fruitless' = AllGood failed fruitless failed' fruitless'
CountsLines None failed fruitless failed' fruitless' = LastBad failed fruitless failed' fruitless'

-- `true`: there is room for a line behind the text at hand, some of which may have been written; `false`: a front of it was
abbrev pub MakesRoom : Bool → Output → Output → Type 0
MakesRoom true old new = Gives old new [] × (length new.text + LINE_ROOM ≤ PIECE)
MakesRoom false old new = (n : ℕ) × (n ≤ length old.text) × Appends old.contents new.contents (take n old.text)
