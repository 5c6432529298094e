-- Some tasks are kept no more, and fewer are kept then.
use Rattle.std.proofs.Common.{ℕ, List}
use Rattle.queue_code.specs.Calls.{Planned}
use Rattle.executor_model.specs.declared.types.Happening.TheVariants as h
use Rattle.executor_model.specs.Histories.{HistoryEntry}
use Rattle.task_table.specs.Tables.{StandsBefore}
use Rattle.task_table.specs.Firsts.{kept_in}
use Rattle.task_table.specs.Runs.{IsFree}
use Rattle.executor_core.specs.own.OwnSteps.{AreUnkept}
use Rattle.executor_core.proofs.machine.workers.drop_met.Given as goal

abbrev pub invariant-loop : goal.invariant-loop
invariant-loop g l = record {
  unkept : AreUnkept l.fn.table l.table;
  stands : (worker : ℕ) → IsFree l.fn.table worker → (calls : List Planned) (past : List HistoryEntry) → StandsBefore l.fn.table calls past (h.Start worker) → StandsBefore l.table calls past (h.Start worker);
}

abbrev pub decreases-loop : goal.decreases-loop
decreases-loop g l = kept_in l.table.slots
