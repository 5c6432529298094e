-- Groups of lines as they stand in a file (this project's rule).
use Rattle.std.specs.Prelude.{◌≡◌, ◌≢◌, ℕ, zero, suc, ◌+◌, ◌*◌, ◌/◌, ◌%◌, ◌<◌, ◌≤◌, List, [], ◌∷◌, ◌++◌, length, flat_map, slice_index, ◌==◌}
use Rattle.std.specs.List.{count_by}
use Rattle.sqlite_disk.specs.Disk.{Holds}
use Rattle.sqlite_disk.specs.Digest.{digest}

-- a number in so many bytes of seven bits, the least first, none of them a zero
abbrev pub sevens : ℕ → ℕ → List ℕ
sevens zero n = []
sevens (suc k) n = (128 + n % 128) ∷ sevens k (n / 128)

-- a group behind its length and its sum
abbrev pub frame : List ℕ → List ℕ
frame group = sevens 3 (length group) ++ (sevens 10 (digest 0 group) ++ group)

abbrev pub frames : List (List ℕ) → List ℕ
frames groups = flat_map frame groups

-- how many lines they have: their newlines
abbrev pub lines_of : List (List ℕ) → ℕ
lines_of [] = 0
lines_of (group ∷ groups) = count_by (λ byte. byte == 10) group + lines_of groups

-- some bytes, not too many, none of them a zero
pub record IsGroup (group : List ℕ) : Type 0 where
  pub some : 0 < length group
  pub few : length group ≤ 65536
  pub no_zero : (i : ℕ) → i < length group → slice_index group i ≢ 0

-- no group stands whole at this place
abbrev pub NoGroup : List ℕ → ℕ → Type 0
NoGroup file at = (group : List ℕ) → IsGroup group → Holds file at (frame group) → ⊥

-- the length that the first bytes of a head tell
abbrev pub length_told : ℕ → ℕ → ℕ → ℕ
length_told a b c = a % 128 + b % 128 * 128 + c % 128 * 16384

-- none does, since a zero stands in what would be its head or its bytes
pub record Ends (file : List ℕ) (at : ℕ) : Type 0 where
  pub place : ℕ
  pub near : place < 65549
  pub covered : place < 13 + length_told (slice_index file at) (slice_index file (at + 1)) (slice_index file (at + 2))
  pub within : at + place < length file
  pub lost : slice_index file (at + place) ≡ 0

-- what a file has from a place on: these groups, and none behind them
pub record Keeps (file : List ℕ) (start : ℕ) (groups : List (List ℕ)) : Type 0 where
  pub front : Holds file start (frames groups)
  pub last : Ends file (start + length (frames groups))

-- from one place to another there are zeros
abbrev pub HasZeros : List ℕ → ℕ → ℕ → Type 0
HasZeros file from to = (to ≤ length file) × ((i : ℕ) → from ≤ i → i < to → slice_index file i ≡ 0)
