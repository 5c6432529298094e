-- What stands in front of a file (this project's rule).
use Rattle.std.specs.Prelude.{◌≡◌, ℕ, ◌+◌, ◌^◌, ◌<◌, ◌≤◌, List, [], ◌∷◌, ◌++◌, ◌⊎◌, length, slice_index}
use Rattle.sqlite_disk.specs.Disk.{Holds}
use Rattle.sqlite_disk.specs.Digest.{digest}
use Rattle.line_journal.specs.Groups.{sevens}
use Rattle.line_journal.specs.declared.head.Head.{Head}
use Rattle.line_journal.specs.declared.head.Front.{Front}
use Rattle.line_journal.specs.declared.head.Front.TheVariants.{Shut, Open}

-- "sched journal 1"
abbrev pub name : List ℕ
name = 115 ∷ 99 ∷ 104 ∷ 101 ∷ 100 ∷ 32 ∷ 106 ∷ 111 ∷ 117 ∷ 114 ∷ 110 ∷ 97 ∷ 108 ∷ 32 ∷ 49 ∷ []

-- what a front tells of its file
unfoldable pub told : Head → List ℕ
told head = name ++ ((sevens 5 head.workers ++ (sevens 10 head.turn ++ sevens 10 head.covers)) ++ (sevens 6 head.text ++ sevens 10 head.sum))

-- the same, with its sum
unfoldable pub told_whole : Head → List ℕ
told_whole head = told head ++ sevens 7 (digest 0 (told head))

-- a front whose gate is open
abbrev pub front_bytes : Head → List ℕ
front_bytes head = 1 ∷ told_whole head

-- what fits into a front
pub record FitsFront (head : Head) : Type 0 where
  pub workers : head.workers < 2 ^ 32
  pub turn : head.turn < 2 ^ 64
  pub covers : head.covers < 2 ^ 64
  pub text : head.text < 2 ^ 42
  pub sum : head.sum < 2 ^ 64

-- a file that does not count: it is too short, or its gate is shut
abbrev pub IsShut : List ℕ → Type 0
IsShut file = (length file < 64) ⊎ (slice_index file 0 ≡ 0)

-- the text that it tells lies in the file
abbrev pub FrontWithin : ℕ → Front → Type 0
FrontWithin len (Open head) = 64 + head.text ≤ len
FrontWithin len _ = Unit

-- what is read is what stands in front
abbrev pub IsFrontOf : List ℕ → Front → Type 0
IsFrontOf file (Open head) = Holds file 0 (front_bytes head) × FitsFront head
IsFrontOf file Shut = IsShut file
IsFrontOf file _ = Unit

-- the same, of the bytes of a front
abbrev pub IsParsed : List ℕ → Front → Type 0
IsParsed bytes (Open head) = (bytes ≡ front_bytes head) × FitsFront head
IsParsed bytes Shut = slice_index bytes 0 ≡ 0
IsParsed bytes _ = Unit
