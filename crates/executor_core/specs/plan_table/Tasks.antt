-- Which tasks wait for a run again.
-- All of it is this project's rule.
use Rattle.std.specs.Prelude.{ℕ, ◌&&◌, Bool, true, false, not, List}
use Rattle.sched_time.specs.declared.timing.Timing.{Timing}
use Rattle.sched_time.specs.declared.timing.Timing.TheVariants as t
use Rattle.queue_code.specs.Calls.{how_many}
use Rattle.executor_model.specs.declared.task.Task.{Task}
use Rattle.task_table.specs.Seats.{is_waiting_in}

-- a task of this timing has more runs than one
abbrev pub is_periodic : Timing → Bool
is_periodic t.Once = false
is_periodic (t.Rate period) = true
is_periodic (t.Fixed delay) = true

-- a periodic task waits for a run
abbrev pub waits_again : Task → Bool
waits_again task = is_waiting_in task.phase && (not task.cancelled && is_periodic task.timing)

-- how many periodic tasks wait for a run
abbrev pub periodic_in : List Task → ℕ
periodic_in tasks = how_many waits_again tasks
