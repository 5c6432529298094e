-- Some tasks are kept no more, and fewer are kept then.
use Rattle.std.proofs.Common.{◌≡◌, true, List}
use Rattle.queue_code.specs.Calls.{Planned}
use Rattle.executor_model.specs.declared.types.Happening.TheVariants as h
use Rattle.executor_model.specs.Histories.{HistoryEntry}
use Rattle.task_table.specs.Tables.{IsNextCall, StandsBefore}
use Rattle.task_table.specs.Firsts.{kept_in}
use Rattle.task_table.specs.Ends.{sweeps_at}
use Rattle.executor_core.specs.own.OwnSteps.{AreUnkept}
use Rattle.executor_core.proofs.machine.sweeps.drop_kept.Given as goal

abbrev pub invariant-loop : goal.invariant-loop
invariant-loop g l = record {
  unkept : AreUnkept l.fn.table l.table;
  stands : (calls : List Planned) (past : List HistoryEntry) (p : Planned) → IsNextCall calls past p → sweeps_at l.fn.table.shut p.1 ≡ true → StandsBefore l.fn.table calls past h.Call → StandsBefore l.table calls past h.Call;
  purges : (calls : List Planned) (past : List HistoryEntry) → StandsBefore l.fn.table calls past h.Purge → StandsBefore l.table calls past h.Purge;
}

abbrev pub decreases-loop : goal.decreases-loop
decreases-loop g l = kept_in l.table.slots
