-- Which slots are empty, and which slot the task of a number has. No contract of a public call cites it but through the invariant of
-- the executor. All of it is this project's rule.
use Rattle.std.specs.Prelude.{◌≡◌, ℕ, ◌<◌, ◌==◌, Bool, false, List, [], ◌∷◌, length, Option, Some, slice_get}
use Rattle.std.specs.Option.{option_map_or}
use Rattle.task_table.specs.declared.seat.Seat.{Seat}
use Rattle.task_table.specs.declared.seat.TaskRef.{TaskRef}
use Rattle.live_core.specs.Empties.{held_numbers, number_in}

-- each number in a slot stood there before
abbrev pub LeavesNumbers : List (Option Seat) → List (Option Seat) → Type 0
LeavesNumbers old new = (i k : ℕ) → number_in (held_numbers new) i ≡ Some k → number_in (held_numbers old) i ≡ Some k

-- and there are as many slots
pub record LeavesSlots (old new : List (Option Seat)) : Type 0 where
  pub numbers : LeavesNumbers old new
  pub size : length new ≡ length old

-- each number below this one that is in a slot stood there before
abbrev pub LeavesBelow : ℕ → List (Option Seat) → List (Option Seat) → Type 0
LeavesBelow count old new = (i k : ℕ) → number_in (held_numbers new) i ≡ Some k → k < count → number_in (held_numbers old) i ≡ Some k

-- the slot of a task holds it
abbrev pub is_held : List (Option ℕ) → TaskRef → Bool
is_held held task = option_map_or (λ k. k == task.number) (number_in held task.slot) false

-- the entries of an index ascend by number
abbrev pub Ascends : List TaskRef → Type 0
Ascends entries = (i j : ℕ) (x y : TaskRef) → i < j → slice_get entries i ≡ Some x → slice_get entries j ≡ Some y → x.number < y.number

-- the entries of an index that is kept as two lists: each number with the slot beside it
abbrev pub entries_of : List ℕ → List ℕ → List TaskRef
entries_of [] slots = []
entries_of (number ∷ numbers) [] = []
entries_of (number ∷ numbers) (slot ∷ slots) = record { number = number; slot = slot } ∷ entries_of numbers slots

-- each number in a list is above those before it
abbrev pub Rises : List ℕ → Type 0
Rises numbers = (i j x y : ℕ) → i < j → slice_get numbers i ≡ Some x → slice_get numbers j ≡ Some y → x < y

-- two lists are kept as an index: each number has a slot beside it, and the numbers ascend
pub record ArePaired (numbers slots : List ℕ) : Type 0 where
  pub size : length numbers ≡ length slots
  pub ascending : Rises numbers

-- each entry before a place is below a number
abbrev pub IsBelow : List TaskRef → ℕ → ℕ → Type 0
IsBelow entries place number = (i : ℕ) (x : TaskRef) → i < place → slice_get entries i ≡ Some x → x.number < number

-- an entry of an index says that the task of this number has this slot
abbrev pub HasEntry : List TaskRef → ℕ → ℕ → Type 0
HasEntry entries number slot = (i : ℕ) × (slice_get entries i ≡ Some (record { number = number; slot = slot }))

-- no entry of an index is of this number
abbrev pub HasNone : List TaskRef → ℕ → Type 0
HasNone entries number = (i : ℕ) (x : TaskRef) → slice_get entries i ≡ Some x → x.number ≡ number → ⊥

-- an index of slots by number, ascending: each task in a slot has its entry, and no number is one that was not given out.
-- (An entry whose slot holds another task by now is stale, and is dropped some time.)
pub record IsIndex (held : List (Option ℕ)) (entries : List TaskRef) (count : ℕ) : Type 0 where
  pub ascending : Ascends entries
  pub below : (i : ℕ) (x : TaskRef) → slice_get entries i ≡ Some x → x.number < count
  pub each : (slot number : ℕ) → number_in held slot ≡ Some number → HasEntry entries number slot

-- what contracts see of an index: its entries, and how many it has room for
pub record IndexView : Type 0 where
  pub entries : List TaskRef
  pub room : ℕ

-- what contracts see of the notes of some slots: the empty ones, the index of the others, how many slots there is room to note in
-- both, and how many entries the index has room for
pub record NotesView : Type 0 where
  pub free : List ℕ
  pub slot_room : ℕ
  pub entries : List TaskRef
  pub index_room : ℕ
