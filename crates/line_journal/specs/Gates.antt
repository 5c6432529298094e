-- A file that is shut, and one that is ready to be opened (this project's rule).
use Rattle.std.specs.Prelude.{◌≡◌, ℕ, ◌+◌, ◌<◌, List, length, slice_index}
use Rattle.sqlite_disk.specs.Disk.{Holds}
use Rattle.line_journal.specs.Groups.{HasZeros}
use Rattle.line_journal.specs.Fronts.{told_whole}
use Rattle.line_journal.specs.declared.head.Head.{Head}

-- its first byte is there, and is a zero
abbrev pub IsClosed : List ℕ → Type 0
IsClosed file = (0 < length file) × (slice_index file 0 ≡ 0)

-- so is what is read, and all that a crash may leave
pub record StaysClosed {D : Type 0} (seen : D → List ℕ) (may_leave : D → List ℕ → Type 0) (disk : D) : Type 0 where
  pub now : IsClosed (seen disk)
  pub left : (c : List ℕ) → may_leave disk c → IsClosed c

-- all but its first byte is as in a file with this snapshot and no line
pub record IsReady (file : List ℕ) (head : Head) (text : List ℕ) : Type 0 where
  pub closed : IsClosed file
  pub front : Holds file 1 (told_whole head)
  pub written : Holds file 64 text
  pub zeros : HasZeros file (64 + length text) (64 + length text + 131072)
