-- The ranges of the numbers in the lines of a history. All of it is this project's rule.
use Rattle.std.specs.Prelude.{◌≡◌, ℕ, ◌<◌, ◌≤◌, List, ◌∷◌, ◌++◌, length, Some, slice_get}
use Rattle.sched_time.specs.Times.{longest}
use Rattle.sched_time.specs.declared.timing.Ending.{Ending}
use Rattle.sched_time.specs.declared.timing.Ending.TheVariants as e
use Rattle.executor_model.specs.declared.types.Happening.TheVariants as h
use Rattle.executor_model.specs.declared.types.Outcome.{Outcome}
use Rattle.executor_model.specs.declared.types.Outcome.TheVariants as o
use Rattle.executor_model.specs.declared.types.Answer.{Answer}
use Rattle.executor_model.specs.declared.types.Answer.TheVariants as a
use Rattle.executor_model.specs.declared.types.Line.{Line}
use Rattle.executor_model.specs.declared.types.Message.{Message}
use Rattle.executor_model.specs.declared.types.Message.TheVariants as m
use Rattle.queue_code.specs.Calls.{Planned, IsOrderly, task_count}
use Rattle.executor_model.specs.Histories.{HistoryEntry, IsHistoryOf}
use Rattle.executor_model.specs.Within.{latest_due}
use Rattle.executor_model.specs.Flows.{lines_of}

-- a run ended so: a finish in the history says it
pub record RunEnded (past : List HistoryEntry) (ending : Ending) : Type 0 where
  pub later : List HistoryEntry
  pub entry : HistoryEntry
  pub before : List HistoryEntry
  pub parts : past ≡ later ++ entry ∷ before
  pub worker : ℕ
  pub finish : entry.happening ≡ h.Finish worker ending

-- a value, or a code, is one that a run ended with, and a due moment is at most the latest one
abbrev pub IsOutcomeInRange : List HistoryEntry → Outcome → Type 0
IsOutcomeInRange past (o.Done value) = RunEnded past (e.Value value)
IsOutcomeInRange past (o.Failed code) = RunEnded past (e.Fault code)
IsOutcomeInRange past (o.Again due) = due ≤ latest_due
IsOutcomeInRange past o.Dropped = Unit {0}
IsOutcomeInRange past o.Ended = Unit {0}

-- a task is one of the calls, and so many are counted at most; a worker is one of the workers; a run has a number below
-- the length of the history; a due moment is at most the latest one
abbrev pub IsAnswerInRange : List Planned → ℕ → List HistoryEntry → Answer → Type 0
IsAnswerInRange calls workers past (a.Submit task kind due) = (task < task_count calls) × (due ≤ latest_due)
IsAnswerInRange calls workers past (a.Refuse task refusal) = task < task_count calls
IsAnswerInRange calls workers past (a.Cancel task effect) = task < task_count calls
IsAnswerInRange calls workers past (a.Outside task effect) = task < task_count calls
IsAnswerInRange calls workers past (a.Ask queue running shut terminated) = (queue ≤ task_count calls) × (running ≤ task_count calls)
IsAnswerInRange calls workers past (a.Start worker task run due) = (worker < workers) × (task < task_count calls) × (run < length past) × (due ≤ latest_due)
IsAnswerInRange calls workers past (a.Idle worker) = worker < workers
IsAnswerInRange calls workers past (a.Finish worker task run outcome) = (worker < workers) × (task < task_count calls) × (run < length past) × IsOutcomeInRange past outcome
IsAnswerInRange calls workers past _ = Unit {0}

-- the same of what a line says
abbrev pub IsMessageInRange : List Planned → ℕ → List HistoryEntry → Message → Type 0
IsMessageInRange calls workers past (m.Answer answer) = IsAnswerInRange calls workers past answer
IsMessageInRange calls workers past (m.End task) = task < task_count calls

-- each line of a history is of a moment within the limit, and what it says is in range
abbrev pub LinesAreInRange : Type 0
LinesAreInRange = (calls : List Planned) (workers : ℕ) (past : List HistoryEntry) (n : ℕ) (line : Line) → IsOrderly calls → IsHistoryOf calls workers past
    → slice_get (lines_of calls past) n ≡ Some line → (line.moment ≤ longest) × IsMessageInRange calls workers past line.message
