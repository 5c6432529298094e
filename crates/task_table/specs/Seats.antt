-- What stands in the slots of a table of tasks.
-- All of it is this project's rule.
use Rattle.std.specs.Prelude.{◌≡◌, ℕ, ◌&&◌, ◌||◌, not, Bool, true, false, List, Option, Some, None, slice_index_or}
use Rattle.executor_model.specs.declared.task.Stage.{Stage}
use Rattle.executor_model.specs.declared.task.Stage.TheVariants as ph
use Rattle.executor_model.specs.declared.task.Task.{Task}
use Rattle.task_table.specs.declared.seat.Seat.{Seat}

-- the task of which this is held
abbrev pub task_in : Seat → Task
task_in x = record { phase = x.phase; run = x.run; due = x.due; timing = x.timing; cancelled = x.cancelled; kept = x.kept }

-- what is held in a slot, and nothing past the last one
abbrev pub slot_of : List (Option Seat) → ℕ → Option Seat
slot_of slots i = slice_index_or slots i None

-- a task in this phase waits for a run, or did when it was cancelled
abbrev pub is_waiting_in : Stage → Bool
is_waiting_in ph.Waiting = true
is_waiting_in _ = false

-- a run of a task in this phase is under way
abbrev pub is_running_in : Stage → Bool
is_running_in ph.Running = true
is_running_in _ = false

-- a task waits for a run
abbrev pub waits : Task → Bool
waits t = is_waiting_in t.phase && not t.cancelled

-- something may come of a task: it waits for a run, or is kept, or a run of it is under way
abbrev pub is_alive : Task → Bool
is_alive t = (waits t || t.kept) || is_running_in t.phase

-- no slot holds a task of this number
abbrev pub IsNew : List (Option Seat) → ℕ → Type 0
IsNew slots number = (i : ℕ) (x : Seat) → slot_of slots i ≡ Some x → (x.number ≡ number → ⊥)
