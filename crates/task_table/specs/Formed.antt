-- What stays true of each table of tasks, whatever the calls and the history are.
-- All of it is this project's rule.
use Rattle.std.specs.Prelude.{◌≡◌, ◌≢◌, ℕ, ◌+◌, ◌^◌, ◌<◌, ◌≤◌, true, length, Some, None, slice_index_or}
use Rattle.sched_time.specs.Times.{longest}
use Rattle.queue_code.specs.Calls.{IsTimed}
use Rattle.executor_model.specs.declared.task.Stage.TheVariants as ph
use Rattle.executor_model.specs.Counts.{most_live_workers}
use Rattle.task_table.specs.declared.seat.Seat.{Seat}
use Rattle.task_table.specs.Seats.{slot_of}
use Rattle.task_table.specs.Tables.{TableView, workers_of}

-- what is held of a task at this moment is within the limits: each due moment is at most the greatest moment and the longest span
-- after it, that of a run under way was reached, and a number is left for the run after it, a kept task was cancelled while it waited,
-- and one whose run was dropped was cancelled
pub record IsSeated (moment : ℕ) (x : Seat) : Type 0 where
  pub submitted : x.phase ≢ ph.Vacant
  pub due : x.due ≤ 2 ^ 63
  pub timed : IsTimed x.timing
  pub reached : x.phase ≡ ph.Running → x.due ≤ moment
  pub room : x.phase ≡ ph.Running → x.run + 1 < 2 ^ 64
  pub kept : x.kept ≡ true → (x.phase ≡ ph.Waiting) × (x.cancelled ≡ true)
  pub over : x.phase ≡ ph.Dropped → x.cancelled ≡ true

-- what stays true of each table
pub record IsFormed (m : TableView) : Type 0 where
  pub moment : m.moment ≤ longest
  pub some : 0 < workers_of m
  pub few : workers_of m ≤ most_live_workers
  pub slots : length m.slots < 2 ^ 32
  pub seated : (i : ℕ) (x : Seat) → slot_of m.slots i ≡ Some x → IsSeated m.moment x
  pub apart : (i j : ℕ) (x y : Seat) → slot_of m.slots i ≡ Some x → slot_of m.slots j ≡ Some y → x.number ≡ y.number → i ≡ j
  pub staffed : (w i : ℕ) → slice_index_or m.work w None ≡ Some i → (x : Seat) × (slot_of m.slots i ≡ Some x) × (x.phase ≡ ph.Running)
  pub alone : (v w i : ℕ) → slice_index_or m.work v None ≡ Some i → slice_index_or m.work w None ≡ Some i → v ≡ w
