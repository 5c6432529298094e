-- What a journal stands for (this project's rule).
use Rattle.std.specs.Prelude.{◌≡◌, ℕ, ◌+◌, ◌<◌, ◌≤◌, IsTrue, false, Result, IsErr, List, [], Option, None, Some, length, take, get_or}
use Rattle.std.specs.Hash.DefaultHasher as sip
use Rattle.sqlite_disk.specs.declared.Disk as disk
use Rattle.line_journal.specs.Resting.{IsThere}
use Rattle.line_journal.specs.Parts.{Part, place_of}
use Rattle.line_journal.specs.Gates.{StaysClosed}
use Rattle.line_journal.specs.Openings.{StandsOn}
use Rattle.line_journal.specs.declared.journal.Journal.{Journal}
use Rattle.line_journal.specs.declared.journal.Snapshot.{Snapshot}

-- its last file is at rest and has this part, and whatever a crash leaves of the other one is older
abbrev pub Stands : {D A : Type 0} {g : disk.Ghosts D} → (D → List ℕ) → (D → List ℕ → Type 0) → Journal D A g → Part → Type 0
Stands seen may_leave journal part = StandsOn seen may_leave journal.current journal.other journal.last journal.limit part

-- a snapshot is begun, and has this text so far
pub record IsDrafting {D A : Type 0} {g : disk.Ghosts D} (seen : D → List ℕ) (may_leave : D → List ℕ → Type 0) (journal : Journal D A g) (text : List ℕ) : Type 0 where
  pub begun : IsTrue journal.is_drafting
  pub closed : StaysClosed seen may_leave journal.other
  pub long : journal.draft ≡ length text
  pub there : IsThere (seen journal.other) 64 text
  pub sum : journal.draft_sum ≡ sip.write sip.initial text

-- the bytes of the group that was read last
abbrev pub group_of : {D A : Type 0} {g : disk.Ghosts D} → Journal D A g → List ℕ
group_of journal = take journal.held journal.buffer.items

-- what is read at the place of the k-th group: that group, and where the next one begins; or there is none
abbrev pub IsNext : Part → ℕ → ℕ → Option ℕ → List ℕ → Type 0
IsNext part k at (Some next) group = k ≤ length part.groups → at ≡ place_of part k → (k < length part.groups) × (group ≡ get_or part.groups k []) × (next ≡ place_of part (k + 1))
IsNext part k at None group = k ≤ length part.groups → at ≡ place_of part k → k ≡ length part.groups

-- what is told of the last snapshot
pub record IsSnapshotOf (part : Part) (snapshot : Snapshot) : Type 0 where
  pub covers : snapshot.covers ≡ part.head.covers
  pub bytes : snapshot.bytes ≡ length part.text
  pub groups : snapshot.groups ≡ place_of part 0

-- where a write has failed before, a call answers with an error, and both files are left as they are
abbrev pub StaysOver : {D A T E : Type 0} {g : disk.Ghosts D} → Journal D A g → Journal D A g → Result T E → Type 0
StaysOver old new result = old.is_sound ≡ false → IsErr result × (new.is_sound ≡ false) × (new.current ≡ old.current) × (new.other ≡ old.other)
