-- What the phase of a task says of it, and where the task stands in a queue.
-- All of it is this project's rule.
use Rattle.std.specs.Prelude.{◌&&◌, Bool, true, false, not}
use Rattle.executor_model.specs.declared.task.Stage.{Stage}
use Rattle.executor_model.specs.declared.task.Stage.TheVariants as ph
use Rattle.executor_model.specs.declared.task.Task.{Task}

-- a run is under way
abbrev pub is_running_phase : Stage → Bool
is_running_phase ph.Running = true
is_running_phase _ = false

-- a task in this phase waits for a run, or did when it was cancelled
abbrev pub is_waiting_phase : Stage → Bool
is_waiting_phase ph.Waiting = true
is_waiting_phase _ = false

-- a task waits for a run
abbrev pub waits_with : Task → Bool
waits_with task = is_waiting_phase task.phase && not task.cancelled
