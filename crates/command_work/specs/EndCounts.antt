-- EndCounts: what the calls of the reader, of the writer and of a file count while the program answers.
-- All of it is this project's rule.
use Rattle.std.specs.Prelude.{◌≡◌, ℕ, ◌⊎◌, Result, Ok, Err}
use Rattle.command_work.specs.declared.error.ProgramError.{ProgramError}
use Rattle.command_work.specs.declared.error.ProgramError.TheVariants.{PlanFile, Run, TraceFile}
use Rattle.sched_engine.specs.declared.report.RunError.TheVariants as x
use Rattle.byte_ends.specs.Ends.{AllGood, LastBad}

-- what the calls of the reader count: what good tries do, the last of which was bad where a fault of reading is told
abbrev pub CountsInput : Result ℕ ProgramError → ℕ → ℕ → ℕ → ℕ → Type 0
CountsInput (Err (Run x.Read)) failed fruitless failed' fruitless' = LastBad failed fruitless failed' fruitless'
CountsInput answer failed fruitless failed' fruitless' = AllGood failed fruitless failed' fruitless'

-- what the calls of the writer count: what good tries do, the last of which was bad where a fault of writing is told
abbrev pub CountsOutput : Result ℕ ProgramError → ℕ → ℕ → ℕ → ℕ → Type 0
CountsOutput (Err (Run x.Write)) failed fruitless failed' fruitless' = LastBad failed fruitless failed' fruitless'
CountsOutput answer failed fruitless failed' fruitless' = AllGood failed fruitless failed' fruitless'

-- what the calls of a file count: what good tries do, the last of which was bad where it is told that the file can't be read
abbrev pub CountsFile : {T : Type 0} → Result T ProgramError → ℕ → ℕ → ℕ → ℕ → Type 0
CountsFile (Err PlanFile) failed fruitless failed' fruitless' = LastBad failed fruitless failed' fruitless'
CountsFile (Err TraceFile) failed fruitless failed' fruitless' = LastBad failed fruitless failed' fruitless'
CountsFile answer failed fruitless failed' fruitless' = AllGood failed fruitless failed' fruitless'

-- the same, where this fault tells that, and want of memory may come besides
abbrev pub CountsFront : {T : Type 0} → ProgramError → Result T ProgramError → ℕ → ℕ → ℕ → ℕ → Type 0
CountsFront fault (Ok text) failed fruitless failed' fruitless' = AllGood failed fruitless failed' fruitless'
CountsFront fault (Err told) failed fruitless failed' fruitless' =
    ((told ≡ fault) × LastBad failed fruitless failed' fruitless') ⊎ ((told ≡ Run x.Memory) × AllGood failed fruitless failed' fruitless')
