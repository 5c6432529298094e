-- Fronts: how much of a file is read.
-- All of it is this project's rule.
use Rattle.std.specs.Prelude.{◌≡◌, ◌≢◌, ℕ, ◌+◌, ◌≤◌, List, length, Option, Some, None, Result, Ok, Err, IfSome, take}
use Rattle.std.specs.Io.KnownBytes.{Consumes}
use Rattle.std.specs.IoError.{error_kind}
use Rattle.std.specs.declared.io.Error.{Error}
use Rattle.std.specs.declared.io.ErrorKind.TheVariants.{OutOfMemory}
use Rattle.plan_read.specs.Texts.{longest_text}
use Rattle.byte_ends.specs.Ends.{LastBad}
use Rattle.trace_check.specs.Standing.{most_bytes}

-- how many bytes of a plan file are read at most: one more than a plan text may have, which shows that the file is longer
abbrev pub most_of_plan : ℕ
most_of_plan = longest_text + 1

-- how many bytes of a trace file are read at most: one more than a trace may have
abbrev pub most_of_trace : ℕ
most_of_trace = most_bytes + 1

-- what is read of a file, of this many bytes at most
abbrev pub front : ℕ → List ℕ → List ℕ
front most bytes = take most bytes

-- of a file at most so many bytes were taken
abbrev pub TakesAtMost : ℕ → Option (List ℕ) → Option (List ℕ) → Type 0
TakesAtMost most old new = (taken : List ℕ) × (length taken ≤ most) × Consumes old new taken

-- an opened file is at fault: there is a state of it after tries of which the last was bad, and at most so many bytes were taken by then
pub record IsAtFault {R : Type 0} (remaining : R → Option (List ℕ)) (failed fruitless : R → ℕ) (most : ℕ) (reader : R) : Type 0 where
  pub after : R
  pub taken : TakesAtMost most (remaining reader) (remaining after)
  pub bad : LastBad (failed reader) (fruitless reader) (failed after) (fruitless after)

-- what was read of a file that the system opened, or did not: the front of its bytes, where these are known, or nothing where it is at
-- fault. Of a file that was not opened nothing was read
abbrev pub IsReadOf : {R : Type 0} → (R → Option (List ℕ)) → (R → ℕ) → (R → ℕ) → ℕ → Result R Error → Option (List ℕ) → Type 0
IsReadOf remaining failed fruitless most (Ok reader) (Some text) = IfSome (remaining reader) (λ bytes. text ≡ front most bytes)
IsReadOf remaining failed fruitless most (Ok reader) None = IsAtFault remaining failed fruitless most reader
IsReadOf remaining failed fruitless most (Err error) (Some text) = ⊥
IsReadOf remaining failed fruitless most (Err error) None = error_kind error ≢ OutOfMemory

-- what was read of a file that the system opened, or did not, of so many bytes at most: a fact for each list of bytes, and for nothing
abbrev pub Reads : Type 0 → Type 1
Reads P = ℕ → Result P Error → Option (List ℕ) → Type 0
