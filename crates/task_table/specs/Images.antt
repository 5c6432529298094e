-- What is written of a table, and how it stands to the table.
-- All of it is this project's rule.
use Rattle.std.specs.Prelude.{◌≡◌, ℕ, ◌<◌, List, length, Some, None, slice_get, slice_index_or}
use Rattle.task_table.specs.declared.seat.Seat.{Seat}
use Rattle.task_table.specs.declared.image.Frame.{Frame}
use Rattle.task_table.specs.declared.image.Image.{Image}
use Rattle.task_table.specs.Seats.{slot_of}
use Rattle.task_table.specs.Tables.{TableView, workers_of}

-- a table has this beside its tasks
pub record HasFrame (m : TableView) (f : Frame) : Type 0 where
  pub moment : m.moment ≡ f.moment
  pub workers : workers_of m ≡ f.workers
  pub slots : length m.slots ≡ f.slots
  pub policies : m.policies ≡ f.policies
  pub shut : m.shut ≡ f.shut
  pub stopped : m.stopped ≡ f.stopped

-- the slot of an image holds what it says, and the worker that it names, and no other one, has that slot
pub record IsImageIn (m : TableView) (r : Image) : Type 0 where
  pub there : slot_of m.slots r.slot ≡ Some r.seat
  pub works : (w : ℕ) → r.worker ≡ Some w → slice_index_or m.work w None ≡ Some r.slot
  pub alone : (w : ℕ) → slice_index_or m.work w None ≡ Some r.slot → r.worker ≡ Some w

-- each image has a number above those before it
abbrev pub Ascends : List Image → Type 0
Ascends rs = (i j : ℕ) (x y : Image) → i < j → slice_get rs i ≡ Some x → slice_get rs j ≡ Some y → x.seat.number < y.seat.number

-- one of the images is of this slot
abbrev pub HasImageOf : List Image → ℕ → Type 0
HasImageOf rs slot = (j : ℕ) × (r : Image) × (slice_get rs j ≡ Some r) × (r.slot ≡ slot)

-- these are the images of the tasks of a table, ascending by number
pub record AreImages (m : TableView) (rs : List Image) : Type 0 where
  pub ascending : Ascends rs
  pub each : (j : ℕ) (r : Image) → slice_get rs j ≡ Some r → IsImageIn m r
  pub held : (slot : ℕ) (x : Seat) → slot_of m.slots slot ≡ Some x → HasImageOf rs slot
  pub run : (w slot : ℕ) → slice_index_or m.work w None ≡ Some slot → HasImageOf rs slot

-- this is written of a table
pub record IsWritten (m : TableView) (f : Frame) (rs : List Image) : Type 0 where
  pub frame : HasFrame m f
  pub images : AreImages m rs
