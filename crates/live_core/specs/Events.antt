-- What the executor's events answer, as the lines of a trace have it, and what stands then.
-- All of it is this project's rule (the order of the runs is that of `task_table`, which names its sources).
use Rattle.std.specs.Prelude.{◌≡◌, ℕ, ◌-◌, ◌^◌, true, List, Option, Some, None, slice_index_or}
use Rattle.queue_code.specs.Calls.{Planned}
use Rattle.executor_model.specs.declared.types.Happening.{Happening}
use Rattle.executor_model.specs.declared.types.Happening.TheVariants as h
use Rattle.executor_model.specs.declared.types.EventError.{EventError}
use Rattle.executor_model.specs.declared.types.Outcome.{Outcome}
use Rattle.executor_model.specs.declared.types.Outcome.TheVariants as o
use Rattle.executor_model.specs.declared.types.Answer.TheVariants as a
use Rattle.executor_model.specs.Answers.{Reply, bare}
use Rattle.executor_model.specs.Histories.{HistoryEntry, answer}
use Rattle.task_table.specs.declared.answers.Begun.{Begun}
use Rattle.task_table.specs.declared.answers.Ended.{Ended}
use Rattle.task_table.specs.declared.answers.StartError.{StartError}
use Rattle.task_table.specs.declared.answers.StartError.TheVariants as e
use Rattle.task_table.specs.declared.seat.Seat.{Seat}
use Rattle.task_table.specs.declared.seat.TaskRef.{TaskRef}
use Rattle.task_table.specs.Seats.{slot_of, is_running_in}
use Rattle.task_table.specs.Tables.{TableView, workers_of}
use Rattle.task_table.specs.Runs.{IsFree, IsFull, IsStartError}
use Rattle.live_core.specs.Lives.{LiveView, Stands, Happens, quiet}
use Rattle.live_core.specs.Said.{is_waiting_there}

-- a start by a worker begins this run, or none
abbrev pub start_reply : ℕ → Option Begun → Reply
start_reply worker None = bare (a.Idle worker)
start_reply worker (Some b) = bare (a.Start worker b.task.number b.run b.due)

-- a finish by a worker ends this run
abbrev pub finish_reply : ℕ → Ended → Reply
finish_reply worker e = bare (a.Finish worker e.task.number e.run e.outcome)

-- a worker runs this task, which stands in its slot
pub record IsRunBy (m : TableView) (worker : ℕ) (t : TaskRef) : Type 0 where
  pub works : slice_index_or m.work worker None ≡ Some t.slot
  pub task : Seat
  pub there : slot_of m.slots t.slot ≡ Some task
  pub named : task.number ≡ t.number
  pub runs : is_running_in task.phase ≡ true

-- what a run that ended so leaves in the slot of its task: the task, which waits, where a run comes after it, and else nothing
abbrev pub IsLeftThere : TableView → Outcome → TaskRef → Type 0
IsLeftThere m (o.Again next) t = is_waiting_there m t ≡ true
IsLeftThere m _ t = slot_of m.slots t.slot ≡ None

-- an event is answered by an error: it happens, and the executor is as it was, but that the last happening ended no task
pub record Fails (old new : LiveView) (y : Happening) (error : EventError) : Type 0 where
  pub happens : Happens old new y (bare (a.Error error))
  pub is : new ≡ quiet old old.table

-- the numbers of the runs of a task are below this one
abbrev pub run_limit : ℕ
run_limit = 2 ^ 64 - 1

-- whatever calls and history led here, the start of this worker would begin a run that has no number
abbrev pub WouldPassLimit : LiveView → ℕ → Type 0
WouldPassLimit m worker = (calls : List Planned) (past : List HistoryEntry) → Stands m calls past →
    (task due : ℕ) × (answer calls (workers_of m.table) past (h.Start worker) ≡ bare (a.Start worker task run_limit due))

-- why a start begins no run: it is answered by an error; or nothing happens, and nothing changes, since no number is left for the
-- run that it would begin
abbrev pub BeginsNone : LiveView → LiveView → ℕ → StartError → Type 0
BeginsNone old new worker (e.Refused error) = IsStartError old.table worker error × Fails old new (h.Start worker) error
BeginsNone old new worker e.Full = IsFree old.table worker × IsFull old.table × WouldPassLimit old worker × (new ≡ old)
