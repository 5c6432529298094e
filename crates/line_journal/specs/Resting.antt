-- A file whose groups are durable, with zeros behind them (this project's rule).
use Rattle.std.specs.Prelude.{◌≡◌, ◌⊎◌, ℕ, ◌+◌, ◌<◌, ◌≤◌, Bool, IsTrue, List, length, slice_index}
use Rattle.sqlite_disk.specs.Disk.{Only}
use Rattle.line_journal.specs.Groups.{frames, Keeps, HasZeros}

-- a disk of which a crash leaves each byte of a torn write old or new
abbrev pub Mixes : {D : Type 0} → (D → Bool) → Type 0
Mixes is_mixing = (disk : _) → IsTrue (is_mixing disk)

-- what a crash may leave of it is what is read, and that has these groups from `start` to `end`, and zeros up to `limit`
pub record IsAtRest {D : Type 0} (seen : D → List ℕ) (may_leave : D → List ℕ → Type 0) (disk : D) (start : ℕ) (groups : List (List ℕ)) (end limit : ℕ) : Type 0 where
  pub durable : Only (seen disk) (may_leave disk)
  pub keeps : Keeps (seen disk) start groups
  pub ends : end ≡ start + length (frames groups)
  pub zeros : HasZeros (seen disk) end limit

-- each byte below a place is as it was
pub record KeepsBelow (place : ℕ) (old new : List ℕ) : Type 0 where
  pub long : length old ≤ length new
  pub below : (i : ℕ) → i < length old → i < place → slice_index new i ≡ slice_index old i

-- the same, of a file that may have become shorter, down to that place
abbrev pub SameBelow : ℕ → List ℕ → List ℕ → Type 0
SameBelow place old new = (i : ℕ) → i < length old → i < place → (i < length new) × (slice_index new i ≡ slice_index old i)

-- from that place on each byte is as it was, or a zero
pub record Blanks (place : ℕ) (old new : List ℕ) : Type 0 where
  pub kept : KeepsBelow place old new
  pub each : (i : ℕ) → i < length old → place ≤ i → (slice_index new i ≡ slice_index old i) ⊎ (slice_index new i ≡ 0)

-- the file reaches `to`, and has zeros from `from` on; told place by place
abbrev pub IsBlank : List ℕ → ℕ → ℕ → Type 0
IsBlank file from to = (i : ℕ) → from ≤ i → i < to → (i < length file) × (slice_index file i ≡ 0)

-- these bytes stand there; told place by place
abbrev pub IsThere : List ℕ → ℕ → List ℕ → Type 0
IsThere file at bytes = (i : ℕ) → i < length bytes → (at + i < length file) × (slice_index file (at + i) ≡ slice_index bytes i)
