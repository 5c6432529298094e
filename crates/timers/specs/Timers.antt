-- What contracts see of timers, and what goes with each task.
-- All of it is this project's rule.
use Rattle.std.specs.Prelude.{◌≡◌, ℕ, ◌<◌, List, ◌∷◌, [], ◌++◌, length, Some, slice_get, slice_index_or}
use Rattle.std.specs.List.{All}
use Rattle.task_table.specs.declared.seat.Seat.{Seat}
use Rattle.task_table.specs.declared.seat.TaskRef.{TaskRef}
use Rattle.task_table.specs.Seats.{slot_of}
use Rattle.live_core.specs.Lives.{LiveView}

-- the executor, and the data in each slot, a number of the caller's
pub record TimersView : Type 0 where
  pub live : LiveView
  pub user_data : List ℕ

-- the data in a slot
abbrev pub data_in : TimersView → ℕ → ℕ
data_in m slot = slice_index_or m.user_data slot 0

-- the data that was given with the submission of this number
abbrev pub given_with : List ℕ → ℕ → ℕ
given_with given number = slice_index_or given number 0

-- these data were given so far, and the slot of the task of this number has what was given with it
abbrev pub HasItsOwn : TimersView → List ℕ → TaskRef → Type 0
HasItsOwn m given task = (task.number < length given) × (data_in m task.slot ≡ given_with given task.number)

-- these data were given, one with each submission, in their order: each slot that holds a task has what was given with that task, and
-- so has the slot of each task that the last call ended
pub record WereGiven (m : TimersView) (given : List ℕ) : Type 0 where
  pub count : length given ≡ m.live.count
  pub held : (slot : ℕ) (x : Seat) → slot_of m.live.table.slots slot ≡ Some x → HasItsOwn m given (record { number = x.number; slot = slot })
  pub ended : All (HasItsOwn m given) m.live.ended

-- whatever data were given so far, none are given now
abbrev pub GivesNone : TimersView → TimersView → Type 0
GivesNone old new = (given : List ℕ) → WereGiven old given → WereGiven new given

-- whatever data were given so far, these are given now with a submission
abbrev pub Gives : TimersView → TimersView → ℕ → Type 0
Gives old new user_data = (given : List ℕ) → WereGiven old given → WereGiven new (given ++ user_data ∷ [])

-- whatever data were given so far, these were given with the task of a number
abbrev pub WasGivenWith : TimersView → ℕ → ℕ → Type 0
WasGivenWith m number user_data = (given : List ℕ) → WereGiven m given → (number < length given) × (user_data ≡ given_with given number)

-- and with the task at a place of those that the last call ended
abbrev pub IsGivenAt : TimersView → ℕ → ℕ → Type 0
IsGivenAt m place value = (task : TaskRef) → slice_get m.live.ended place ≡ Some task → WasGivenWith m task.number value
