-- What is found at a place of a file (this project's rule).
use Rattle.std.specs.Prelude.{◌≡◌, ℕ, ◌+◌, ◌<◌, ◌≤◌, List, ◌++◌, length, take, slice_index}
use Rattle.std.specs.List.{AllByRecursion}
use Rattle.sqlite_disk.specs.Disk.{Holds}
use Rattle.sqlite_disk.specs.Digest.{digest}
use Rattle.line_journal.specs.Groups.{sevens, frame, frames, lines_of, IsGroup, Ends, Keeps}
use Rattle.line_journal.specs.declared.zone.Found.{Found}
use Rattle.line_journal.specs.declared.zone.Found.TheVariants.{Group, End, Broken}

-- a group that is found lies in the file, and in the buffer
abbrev pub FoundWithin : ℕ → ℕ → ℕ → Found → Type 0
FoundWithin at len room (Group n) = (at + (13 + n) ≤ len) × (n ≤ room) × (0 < n)
FoundWithin at len room End = Unit
FoundWithin at len room Broken = Unit

-- what stands at a place of a file, where the buffer begins with what was read
abbrev pub IsFoundIn : List ℕ → ℕ → List ℕ → Found → Type 0
IsFoundIn file at buffer (Group n) = IsGroup (take n buffer) × Holds file at (frame (take n buffer))
IsFoundIn file at buffer End = Ends file at
IsFoundIn file at buffer Broken = Unit

-- the same of a head and of as many bytes behind it as it tells
abbrev pub IsJudged : List ℕ → List ℕ → Found → Type 0
IsJudged head body (Group n) = (n ≡ length body) × IsGroup body × (head ≡ sevens 3 (length body) ++ sevens 10 (digest 0 body))
IsJudged head body End = (i : ℕ) × (i < length body) × (slice_index body i ≡ 0)
IsJudged head body Broken = Unit

-- the same of the last bytes of a file, too few for a head
abbrev pub IsEnded : List ℕ → Found → Type 0
IsEnded part (Group n) = ⊥
IsEnded part End = (i : ℕ) × (i < length part) × (slice_index part i ≡ 0)
IsEnded part Broken = Unit

-- from one place to another a file has some groups, of so many lines
abbrev pub HasSome : List ℕ → ℕ → ℕ → ℕ → Type 0
HasSome file start end lines = (groups : List (List ℕ)) × AllByRecursion IsGroup groups × Holds file start (frames groups) × (end ≡ start + length (frames groups)) × (lines ≡ lines_of groups)

-- and none behind them
abbrev pub HasAll : List ℕ → ℕ → ℕ → ℕ → Type 0
HasAll file start end lines = (groups : List (List ℕ)) × AllByRecursion IsGroup groups × Keeps file start groups × (end ≡ start + length (frames groups)) × (lines ≡ lines_of groups)
