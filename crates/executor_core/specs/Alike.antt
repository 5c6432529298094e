-- A core of a plan, and a table of tasks to which calls are told while it runs: the plan's executor is a live one with a code.
-- All of it is this project's rule.
use Rattle.std.specs.Prelude.{◌≡◌, [], ◌∷◌, ◌++◌, List, length}
use Rattle.executor_model.specs.declared.types.Happening.{Happening}
use Rattle.executor_model.specs.declared.types.Line.{Line}
use Rattle.executor_model.specs.Answers.{Reply}
use Rattle.executor_model.specs.Histories.{HistoryEntry, entry_of, happenings, MayCome}
use Rattle.executor_model.specs.State.{reply_of}
use Rattle.executor_model.specs.Flows.{lines_at}
use Rattle.task_table.specs.Tables as tables
use Rattle.task_table.specs.Tables.{TableView}
use Rattle.executor_core.specs.CoreView.{CoreView, workers_of, state_of, Stands, Steps}

-- a table and a core with as many workers stand where one history of the core's calls leads
pub record StandAlike (m : TableView) (core : CoreView) (past : List HistoryEntry) : Type 0 where
  pub live : tables.Stands m core.calls past
  pub plan : Stands core past
  pub workers : length m.work ≡ workers_of core

-- what comes next, a call or an event: the table takes it with this reply, and the core its step
pub record BothTake (m new : TableView) (core after_it : CoreView) (past : List HistoryEntry) (before lines : List Line) (y : Happening) (r : Reply) : Type 0 where
  pub comes : MayCome core.calls (happenings past) y
  pub live : tables.Takes new core.calls past y r
  pub workers : length new.work ≡ length m.work
  pub plan : Steps core after_it before lines (y ∷ [])

-- then both give this reply, with the same lines, and stand alike behind it, so that this is so of all that follows
pub record AnswerAlike (new : TableView) (core after_it : CoreView) (past : List HistoryEntry) (before lines : List Line) (y : Happening) (r : Reply) : Type 0 where
  pub reply : reply_of core.calls (workers_of core) (state_of core) y ≡ r
  pub given : lines ≡ before ++ lines_at new.moment r
  pub stand : StandAlike new after_it (entry_of y r ∷ past)
