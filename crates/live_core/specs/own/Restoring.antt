-- How far what is written of an executor is read, or written. No contract of a public call cites it.
-- All of it is this project's rule.
use Rattle.std.specs.Prelude.{◌≡◌, ℕ, ◌+◌, ◌<◌, ◌≤◌, ◌&&◌, nat_lt, Bool, true, false, List, length, map, Option, None, Some, slice_get, slice_index_or}
use Rattle.std.specs.List.{list_all}
use Rattle.task_table.specs.declared.seat.Seat.{Seat}
use Rattle.task_table.specs.declared.seat.TaskRef.{TaskRef}
use Rattle.task_table.specs.declared.image.Image.{Image}
use Rattle.task_table.specs.Seats.{task_in, slot_of, is_alive}
use Rattle.task_table.specs.Tables.{TableView}
use Rattle.task_table.specs.Images.{Ascends, IsImageIn, HasImageOf}
use Rattle.live_core.specs.declared.frame.ExecutorFrame.{ExecutorFrame}
use Rattle.live_core.specs.Empties.{number_in, is_among, AreOnce}

-- moments and numbers of a frame are as they are of an executor
pub record IsSoundFrame (f : ExecutorFrame) : Type 0 where
  pub behind : f.earliest ≤ f.table.moment + 1
  pub unshut : f.table.shut ≡ false → f.accepted ≡ f.count

-- the tasks of some images
abbrev pub refs_of : List Image → List TaskRef
refs_of rs = map (λ r. record { number = r.seat.number; slot = r.slot }) rs

-- something may come of the task of an image, and its number is below this one
abbrev pub is_live : ℕ → Image → Bool
is_live count r = is_alive (task_in r.seat) && nat_lt r.seat.number count

-- the same of each image
abbrev pub are_live : ℕ → List Image → Bool
are_live count rs = list_all (is_live count) rs

-- each of these is an empty slot, and once among them
pub record AreOnceEmpty (held : List (Option ℕ)) (free : List ℕ) : Type 0 where
  pub within : (i : ℕ) → is_among i free ≡ true → i < length held
  pub empty : (i : ℕ) → is_among i free ≡ true → number_in held i ≡ None
  pub once : AreOnce free

-- of each slot it is marked whether it is among these
abbrev pub AreMarked : List Bool → List ℕ → Type 0
AreMarked marks free = (i : ℕ) → slice_index_or marks i false ≡ is_among i free

-- what is written once the first so many entries of the index were met
pub record AreWritten (m : TableView) (entries : List TaskRef) (count : ℕ) (rs : List Image) : Type 0 where
  pub ascending : Ascends rs
  pub low : (j k : ℕ) (r : Image) (e : TaskRef) → slice_get rs j ≡ Some r → count ≤ k → slice_get entries k ≡ Some e → r.seat.number < e.number
  pub each : (j : ℕ) (r : Image) → slice_get rs j ≡ Some r → IsImageIn m r
  pub all : (k : ℕ) (e : TaskRef) (x : Seat) → k < count → slice_get entries k ≡ Some e → slot_of m.slots e.slot ≡ Some x → x.number ≡ e.number → HasImageOf rs e.slot
