-- A task that a worker runs. No contract of a public call cites it.
-- All of it is this project's rule.
use Rattle.std.specs.Prelude.{◌≡◌, ℕ, ◌+◌, ◌^◌, ◌<◌, ◌≤◌}
use Rattle.sched_time.specs.Times.{longest}
use Rattle.executor_model.specs.declared.task.Stage.TheVariants as ph
use Rattle.task_table.specs.declared.seat.Seat.{Seat}

-- of a task whose run is under way at this moment
pub record IsAtWork (moment : ℕ) (x : Seat) : Type 0 where
  pub runs : x.phase ≡ ph.Running
  pub due : x.due ≤ longest
  pub room : x.run + 1 < 2 ^ 64
