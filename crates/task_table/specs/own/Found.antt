-- Which tasks a sweep finds as it goes over the slots. No contract of a public call cites it.
-- All of it is this project's rule.
use Rattle.std.specs.Prelude.{ℕ, ◌+◌, Bool, if◌then◌else◌, List, [], ◌∷◌, ◌++◌, Option, Some, None, map, take, drop}
use Rattle.std.specs.Option.{option_map}
use Rattle.task_table.specs.declared.seat.Seat.{Seat}
use Rattle.task_table.specs.declared.seat.TaskRef.{TaskRef}
use Rattle.task_table.specs.Tables.{TableView}
use Rattle.task_table.specs.Changes.{swept}

-- the task in a slot, if it passes a test
abbrev pub ref_of : (Seat → Bool) → ℕ → Option Seat → List TaskRef
ref_of test slot None = []
ref_of test slot (Some x) = if test x then record { number = x.number; slot = slot } ∷ [] else []

-- the tasks that pass a test, of slots that begin with this one
abbrev pub found : (Seat → Bool) → ℕ → List (Option Seat) → List TaskRef
found test slot [] = []
found test slot (o ∷ slots) = ref_of test slot o ++ found test (slot + 1) slots

-- the table once its first slots are swept
abbrev pub partly : TableView → ℕ → TableView
partly m count = record m { slots = map (option_map (λ x. swept m.stopped m.policies m.moment x)) (take count m.slots) ++ drop count m.slots }
