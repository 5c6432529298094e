-- How far a table is that is made of what is written of one. No contract of a public call cites it.
-- All of it is this project's rule.
use Rattle.std.specs.Prelude.{◌≡◌, ℕ, ◌<◌, List, length, Option, Some, None, slice_get, slice_set, slice_index_or}
use Rattle.executor_model.specs.declared.task.Stage.{Stage}
use Rattle.executor_model.specs.declared.task.Stage.TheVariants as ph
use Rattle.task_table.specs.declared.seat.Seat.{Seat}
use Rattle.task_table.specs.declared.image.Image.{Image}
use Rattle.task_table.specs.Seats.{slot_of}
use Rattle.task_table.specs.Tables.{TableView, workers_of}
use Rattle.task_table.specs.Formed.{IsSeated}
use Rattle.task_table.specs.Changes.{put}

-- two tables have the same beside their tasks
pub record KeepsFrame (m n : TableView) : Type 0 where
  pub moment : n.moment ≡ m.moment
  pub workers : workers_of n ≡ workers_of m
  pub slots : length n.slots ≡ length m.slots
  pub policies : n.policies ≡ m.policies
  pub shut : n.shut ≡ m.shut
  pub stopped : n.stopped ≡ m.stopped

-- each of the first so many images has a number above those before it
abbrev pub Climbs : List Image → ℕ → Type 0
Climbs rs count = (i j : ℕ) (x y : Image) → i < j → j < count → slice_get rs i ≡ Some x → slice_get rs j ≡ Some y → x.seat.number < y.seat.number

-- one of the first so many images is of this slot and holds this
abbrev pub IsHeld : List Image → ℕ → ℕ → Seat → Type 0
IsHeld rs count i x = (j : ℕ) × (r : Image) × (j < count) × (slice_get rs j ≡ Some r) × (r.slot ≡ i) × (r.seat ≡ x)

-- one of them is of this slot and is run by this worker
abbrev pub IsRun : List Image → ℕ → ℕ → ℕ → Type 0
IsRun rs count w i = (j : ℕ) × (r : Image) × (j < count) × (slice_get rs j ≡ Some r) × (r.slot ≡ i) × (r.worker ≡ Some w)

-- the first so many images are those of the tasks of a table
pub record IsPart (m : TableView) (rs : List Image) (count : ℕ) : Type 0 where
  pub there : (j : ℕ) (r : Image) → j < count → slice_get rs j ≡ Some r → slot_of m.slots r.slot ≡ Some r.seat
  pub all : (i : ℕ) (x : Seat) → slot_of m.slots i ≡ Some x → IsHeld rs count i x
  pub worked : (j w : ℕ) (r : Image) → j < count → slice_get rs j ≡ Some r → r.worker ≡ Some w → slice_index_or m.work w None ≡ Some r.slot
  pub work : (w i : ℕ) → slice_index_or m.work w None ≡ Some i → IsRun rs count w i

-- a worker, if one is named, may run a task in this phase
abbrev pub MayWork : List (Option ℕ) → Option ℕ → Stage → Type 0
MayWork work None phase = Unit {0}
MayWork work (Some w) phase = (w < length work) × (slice_index_or work w None ≡ None) × (phase ≡ ph.Running)

-- a worker, if one is named, is one of so many
abbrev pub IsWithin : Option ℕ → ℕ → Type 0
IsWithin None count = Unit {0}
IsWithin (Some w) count = w < count

-- a task may come into its slot
pub record Fits (m : TableView) (r : Image) : Type 0 where
  pub low : r.slot < length m.slots
  pub empty : slot_of m.slots r.slot ≡ None
  pub seated : IsSeated m.moment r.seat
  pub free : MayWork m.work r.worker r.seat.phase

-- the work once a worker, if one is named, has this slot
abbrev pub staffed : List (Option ℕ) → Option ℕ → ℕ → List (Option ℕ)
staffed work None slot = work
staffed work (Some w) slot = slice_set work w (Some slot)

-- the table once a task is in its slot
abbrev pub placed : TableView → Image → TableView
placed m r = record (put m r.slot r.seat) { work = staffed m.work r.worker r.slot }
