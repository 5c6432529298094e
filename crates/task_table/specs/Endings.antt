-- What a call that sweeps says of the tasks that it ends.
-- All of it is this project's rule.
use Rattle.std.specs.Prelude.{◌≡◌, ℕ, false, List, Some, map}
use Rattle.std.specs.List.{All}
use Rattle.task_table.specs.declared.seat.Seat.{Seat}
use Rattle.task_table.specs.declared.seat.TaskRef.{TaskRef}
use Rattle.task_table.specs.Seats.{task_in, slot_of, is_alive}
use Rattle.task_table.specs.Tables.{TableView}
use Rattle.task_table.specs.Ends.{AreEnded}
use Rattle.task_table.specs.Changes.{after_sweep}

-- the numbers of some tasks
abbrev pub numbers_of : List TaskRef → List ℕ
numbers_of tasks = map (λ (r : TaskRef). r.number) tasks

-- a task's slot holds it, and nothing may come of it any more
pub record IsOverAt (m : TableView) (r : TaskRef) : Type 0 where
  pub task : Seat
  pub there : slot_of m.slots r.slot ≡ Some task
  pub named : task.number ≡ r.number
  pub over : is_alive (task_in task) ≡ false

-- a sweep of a table ends these tasks, ascending by number, and each stays in its slot
pub record SweepEnds (m new : TableView) (ends : List TaskRef) : Type 0 where
  pub is : new ≡ after_sweep m
  pub ended : AreEnded m (numbers_of ends)
  pub over : All (IsOverAt new) ends
