-- What files stand for: a snapshot, and the groups of lines behind it (this project's rule).
use Rattle.std.specs.Prelude.{◌≡◌, ◌⊎◌, ℕ, ◌+◌, ◌-◌, ◌^◌, ◌<◌, List, [], ◌∷◌, ◌++◌, min, take, length}
use Rattle.std.specs.List.{AllByRecursion}
use Rattle.std.specs.Hash.DefaultHasher as sip
use Rattle.sqlite_disk.specs.Disk.{Holds}
use Rattle.line_journal.specs.Groups.{IsGroup, Keeps, frames, lines_of}
use Rattle.line_journal.specs.Fronts.{front_bytes, FitsFront, IsShut}
use Rattle.line_journal.specs.declared.head.Head.{Head}

pub record Part : Type 0 where
  pub head : Head
  pub text : List ℕ
  pub groups : List (List ℕ)

-- a file that counts, with this part
pub record Has (file : List ℕ) (part : Part) : Type 0 where
  pub front : Holds file 0 (front_bytes part.head)
  pub fits : FitsFront part.head
  pub text : Holds file 64 part.text
  pub long : length part.text ≡ part.head.text
  pub all : AllByRecursion IsGroup part.groups
  pub keeps : Keeps file (64 + part.head.text) part.groups

-- a file that does not count, or has an older part
abbrev pub IsOlder : List ℕ → ℕ → Type 0
IsOlder file turn = IsShut file ⊎ ((part : Part) × Has file part × (part.head.turn < turn))

-- the part of a journal with no line, for so many workers
abbrev pub empty_part : ℕ → Part
empty_part workers = record { head = record { workers = workers; turn = 1; covers = 0; text = 0; sum = sip.finish sip.initial }; text = []; groups = [] }

-- what two files stand for, in either order: the later part, or a journal with no line
abbrev pub StandFor : ℕ → List ℕ → List ℕ → Part → Type 0
StandFor workers one two part = (Has one part × IsOlder two part.head.turn) ⊎ ((Has two part × IsOlder one part.head.turn) ⊎ (IsShut one × IsShut two × (part ≡ empty_part workers)))

-- with one group more
abbrev pub with_group : Part → List ℕ → Part
with_group part group = record { head = part.head; text = part.text; groups = part.groups ++ group ∷ [] }

-- a snapshot, and no line behind it
abbrev pub snapshot_of : Head → List ℕ → Part
snapshot_of head text = record { head = head; text = text; groups = [] }

-- what the front of the next snapshot tells: it covers the lines up to the last one
abbrev pub next_head : Part → List ℕ → Head
next_head part text = record { workers = part.head.workers; turn = part.head.turn + 1; covers = min (part.head.covers + lines_of part.groups) (2 ^ 64 - 1); text = length text; sum = sip.finish (sip.write sip.initial text) }

-- where a group of a part begins
abbrev pub place_of : Part → ℕ → ℕ
place_of part k = 64 + part.head.text + length (frames (take k part.groups))
