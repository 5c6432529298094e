-- What becomes of a task that was accepted: it is never lost, and its turn comes.
-- Where a definition names a class, its source is the Java SE 17 documentation of that class.
-- Where it names no source, it is this project's rule.
use Rattle.std.specs.Prelude.{◌≡◌, ℕ, ◌+◌, ◌<◌, ◌≤◌, ◌==◌, ◌&&◌, ◌||◌, ◌⊎◌, Bool, true, false, List, ◌∷◌, ◌++◌}
use Rattle.std.specs.List.{list_any}
use Rattle.executor_model.specs.Queues.{comes_before}
use Rattle.executor_model.specs.declared.types.Outcome.TheVariants as o
use Rattle.executor_model.specs.declared.types.Answer.{Answer}
use Rattle.executor_model.specs.declared.types.Answer.TheVariants as a
use Rattle.queue_code.specs.Calls.{Planned, how_many, numbers, task_count, IsOrderly}
use Rattle.executor_model.specs.View.{View, is_waiting, is_enabled, precedes}
use Rattle.executor_model.specs.Histories.{HistoryEntry, IsHistoryOf, view_of_history, due_of, is_start, cancels, was_accepted, was_cancelled, was_done, was_failed}
use Rattle.executor_model.specs.Within.{latest_due}
use Rattle.executor_laws.specs.Positions.{StartedLast}

-- ---- never lost

-- an answer arms task k: it accepts the task, or finishes a run of it after which it runs again
abbrev pub arms : ℕ → Answer → Bool
arms k (a.Submit task kind due) = task == k
arms k (a.Finish worker task run (o.Again next)) = task == k
arms k _ = false

-- task k stands in line: it was armed, and not started since. It is one of the plan, so a start looks at it; it waits, so it
-- starts once it is due and first in the order; and its due moment is within reach
pub record IsInLine (calls : List Planned) (past : List HistoryEntry) (k : ℕ) : Type 0 where
  pub later : List HistoryEntry
  pub e : HistoryEntry
  pub before : List HistoryEntry
  pub parts : past ≡ later ++ e ∷ before
  pub arms : arms k e.answer ≡ true
  pub unstarted : list_any (λ f. is_start k f.answer) later ≡ false
  pub below : k < task_count calls
  pub waits : is_waiting ((view_of_history calls past).fate k) ≡ true
  pub within : due_of calls past k ≤ latest_due

-- a run of task k is under way: a worker started it and has not finished, and no other worker has
pub record IsAtWork (past : List HistoryEntry) (k : ℕ) : Type 0 where
  pub worker : ℕ
  pub started : StartedLast past worker k
  pub alone : (w : ℕ) → StartedLast past w k → w ≡ worker

-- a task whose submission was accepted, and that was neither cancelled nor ended, by a sweep, a stop or the policies, is never
-- lost: it stands in line, or a run of it is under way, or its one run was finished with a value, or a run of it failed
abbrev pub NoTaskIsLost : Type 0
NoTaskIsLost = (calls : List Planned) (workers : ℕ) (past : List HistoryEntry) (k : ℕ) → IsOrderly calls → IsHistoryOf calls workers past
    → was_accepted k past ≡ true → was_cancelled k past ≡ false
    → IsInLine calls past k ⊎ (IsAtWork past k ⊎ ((was_done k past ≡ true) ⊎ (was_failed k past ≡ true)))

-- ---- the turn

-- task j waits, and stands before task k in the order
abbrev pub is_ahead : View → ℕ → ℕ → Bool
is_ahead v k j = is_waiting (v.fate j) && precedes v j k

-- how many tasks stand before task k
abbrev pub ahead : List Planned → List HistoryEntry → ℕ → ℕ
ahead calls past k = how_many (is_ahead (view_of_history calls past) k) (numbers calls)

-- an answer puts a task before task k, which is due at `due`: it finishes a run of a task that runs again, and is due then
-- before it in the order. (Of a task at a fixed rate that lags behind its due moments, or with a fixed delay of 0. What is
-- submitted later never stands before a task that is due: it is due later, or as late with a greater number.)
abbrev pub puts_ahead : ℕ → ℕ → Answer → Bool
puts_ahead due k (a.Finish worker task run (o.Again next)) = comes_before next task due k
puts_ahead due k _ = false

-- an answer to a start that is not refused: the worker gets a task, or is idle. Where a task is due it is never idle, and a
-- cancelled task that is still kept is taken off on the way and takes no turn
abbrev pub serves : Answer → Bool
serves (a.Start worker task run due) = true
serves (a.Idle worker) = true
serves _ = false

-- how many starts were not refused
abbrev pub turns : List HistoryEntry → ℕ
turns past = how_many (λ e. serves e.answer) past

-- the turn of an enabled task comes: where n tasks stand before it, or are put before it later on, the start n + 1 that is
-- not refused at the latest is its own, unless it is cancelled, swept or stopped first
-- (ScheduledThreadPoolExecutor: "Delayed tasks execute no sooner than they are enabled, but without any real-time guarantees
-- about when, after they are enabled, they will commence.": so in starts, and not in time)
abbrev pub TurnsCome : Type 0
TurnsCome = (calls : List Planned) (workers : ℕ) (later past : List HistoryEntry) (k : ℕ) → IsOrderly calls → IsHistoryOf calls workers (later ++ past)
    → is_enabled (view_of_history calls past) k ≡ true
    → ahead calls past k + how_many (λ e. puts_ahead (due_of calls past k) k e.answer) later < turns later
    → list_any (λ e. is_start k e.answer || cancels k e.answer e.ends) later ≡ true
