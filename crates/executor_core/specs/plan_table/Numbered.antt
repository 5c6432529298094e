-- The tasks of a plan in slots: each stands in the slot of its number, and a slot is empty before its task is accepted.
-- All of it is this project's rule.
use Rattle.std.specs.Prelude.{ℕ, suc, List, [], ◌∷◌, Option, Some, None, map, slice_index_or}
use Rattle.std.specs.Option.{option_map}
use Rattle.executor_model.specs.declared.task.Stage.{Stage}
use Rattle.executor_model.specs.declared.task.Stage.TheVariants as ph
use Rattle.executor_model.specs.declared.task.Task.{Task}
use Rattle.executor_model.specs.State.{vacant}
use Rattle.task_table.specs.declared.seat.Seat.{Seat}
use Rattle.task_table.specs.Seats.{task_in}

-- what is held of a task of this number
abbrev pub seat_of : ℕ → Task → Seat
seat_of number task = record { number = number; run = task.run; due = task.due; timing = task.timing; phase = task.phase; cancelled = task.cancelled; kept = task.kept }

-- what its slot holds, by the phase that it is in
abbrev pub seat_in : Stage → ℕ → Task → Option Seat
seat_in ph.Vacant number task = None
seat_in _ number task = Some (seat_of number task)

-- what the slot of a task of this number holds
abbrev pub slot_by : ℕ → Task → Option Seat
slot_by number task = seat_in task.phase number task

-- what the slots of some tasks hold, whose numbers begin with this one
abbrev pub slots_by : ℕ → List Task → List (Option Seat)
slots_by first [] = []
slots_by first (task ∷ tasks) = slot_by first task ∷ slots_by (suc first) tasks

-- the task of which a slot holds this: a vacant one, where it is empty
abbrev pub task_at : Option Seat → Task
task_at None = vacant
task_at (Some x) = task_in x

-- the tasks of which some slots hold this
abbrev pub tasks_at : List (Option Seat) → List Task
tasks_at slots = map task_at slots

-- what stands in a queue, by slot: the due moment and the number of the task, which is that of the slot
abbrev pub keys_by : List (Option ℕ) → ℕ → Option (ℕ × ℕ)
keys_by entries i = option_map (λ due. (due, i)) (slice_index_or entries i None)
