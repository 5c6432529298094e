-- What a table is once tasks of which nothing comes any more are gone from it. No contract of a public call cites it.
-- All of it is this project's rule.
use Rattle.std.specs.Prelude.{◌≡◌, ℕ, List}
use Rattle.queue_code.specs.Calls.{Planned}
use Rattle.executor_model.specs.declared.types.Happening.TheVariants as h
use Rattle.executor_model.specs.declared.types.Outcome.{Outcome}
use Rattle.executor_model.specs.declared.types.Outcome.TheVariants as o
use Rattle.executor_model.specs.Histories.{HistoryEntry}
use Rattle.task_table.specs.Tables.{TableView, StandsBefore}
use Rattle.task_table.specs.Runs.{IsFree, IsFull}
use Rattle.task_table.specs.Changes.{emptied}

-- kept tasks that a start meets were dropped, and their slots emptied: else all is as it was; if no number is left for a run of the
-- first task that is due, none was before; and where the old table stood before a start, the new one does
pub record Sheds (old new : TableView) : Type 0 where
  pub rest : new ≡ record old { slots = new.slots }
  pub full : IsFull new → IsFull old
  pub before : (worker : ℕ) → IsFree old worker → (calls : List Planned) (past : List HistoryEntry) → StandsBefore old calls past (h.Start worker) → StandsBefore new calls past (h.Start worker)

-- the table once the slot of a task whose run ended so is emptied, if no run comes after it
abbrev pub released : Outcome → TableView → ℕ → TableView
released (o.Again next) m slot = m
released _ m slot = emptied m slot
