-- A live executor and the core of a plan, to which the same calls and events happened.
-- All of it is this project's rule.
use Rattle.std.specs.Prelude.{◌≡◌, ◌≤◌, List, ◌++◌}
use Rattle.std.specs.List.{All}
use Rattle.queue_code.specs.Calls.{Planned, IsPlanned}
use Rattle.executor_model.specs.Histories.{HistoryEntry, happenings, IsHistoryOf}
use Rattle.executor_model.specs.Flows.{lines_of}
use Rattle.task_table.specs.Tables as tables
use Rattle.live_core.specs.Lives as lives
use Rattle.live_core.specs.Lives.{LiveView}
use Rattle.executor_core.specs.CoreView as cores
use Rattle.executor_core.specs.CoreView.{CoreView}

-- A live executor stands where a history of the calls that were made on it leads. A core has these calls and those that come later,
-- none of them before the least moment of the call that comes next, and as many workers; and the same happened to it.
pub record HadTheSame (m : LiveView) (core : CoreView) (calls later : List Planned) (past theirs : List HistoryEntry) : Type 0 where
  pub live : lives.Stands m calls past
  pub has : core.calls ≡ calls ++ later
  pub planned : IsPlanned core.calls
  pub ahead : All (λ p. m.earliest ≤ p.0) later
  pub workers : tables.workers_of m.table ≡ cores.workers_of core
  pub means : IsHistoryOf core.calls (cores.workers_of core) theirs
  pub plan : cores.Stands core theirs
  pub same : happenings past ≡ happenings theirs

-- then each happening had one answer and ended the same tasks, with the same lines, and the live executor's table shows where the core
-- stands
pub record ToldTheSame (m : LiveView) (core : CoreView) (calls : List Planned) (past theirs : List HistoryEntry) : Type 0 where
  pub answers : past ≡ theirs
  pub lines : lines_of calls past ≡ lines_of core.calls theirs
  pub shows : tables.Shows m.table (cores.state_of core)
