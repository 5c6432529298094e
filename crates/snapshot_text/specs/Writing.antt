-- Writing: what the writing of a snapshot did.
-- All of it is this project's rule.
use Rattle.std.specs.Prelude.{ℕ, ◌≤◌, List, Option, Result, Ok, Err, length, take}
use Rattle.std.specs.Io.KnownBytes.{Appends, Keeps}
use Rattle.byte_ends.specs.Ends.{AllGood, LastBad, NoneFailed}
use Rattle.snapshot_text.specs.declared.fault.SnapshotError.{SnapshotError}
use Rattle.snapshot_text.specs.declared.fault.SnapshotError.TheVariants as e

-- the whole text was written, or nothing, or a front of it where the writer was at fault
abbrev pub IsWritten : Result (Unit {0}) SnapshotError → List ℕ → Option (List ℕ) → Option (List ℕ) → Type 0
IsWritten (Ok done) text old new = Appends old new text
IsWritten (Err e.Write) text old new = (n : ℕ) × (n ≤ length text) × Appends old new (take n text)
IsWritten (Err e.Memory) text old new = Keeps old new

-- what the calls of the writer count: what good tries do, the last of which was bad at `Write`; nothing where there is no memory
abbrev pub CountsSnapshot : Result (Unit {0}) SnapshotError → ℕ → ℕ → ℕ → ℕ → Type 0
CountsSnapshot (Ok done) failed fruitless failed' fruitless' = AllGood failed fruitless failed' fruitless'
CountsSnapshot (Err e.Write) failed fruitless failed' fruitless' = LastBad failed fruitless failed' fruitless'
CountsSnapshot (Err e.Memory) failed fruitless failed' fruitless' = NoneFailed 0 failed fruitless failed' fruitless'
