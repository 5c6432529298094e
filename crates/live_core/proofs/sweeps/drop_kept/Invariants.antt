-- Each task that is dropped has left its slot, the others are where they were, and fewer are kept then.
use Rattle.std.proofs.Common.{◌≡◌, ℕ, true, List, length}
use Rattle.queue_code.specs.Calls.{Planned}
use Rattle.executor_model.specs.declared.types.Happening.TheVariants as h
use Rattle.executor_model.specs.Histories.{HistoryEntry}
use Rattle.task_table.specs.Tables.{IsNextCall, StandsBefore}
use Rattle.task_table.specs.Firsts.{kept_in}
use Rattle.task_table.specs.Ends.{sweeps_at}
use Rattle.live_core.specs.Lives.{AreAlive}
use Rattle.live_core.specs.own.Formed.{AreNoted}
use Rattle.live_core.proofs.Alive.{LeavesThere}
use Rattle.live_core.proofs.Swept.{StaysOrGoes, StaysUnkept}
use Rattle.live_core.proofs.sweeps.drop_kept.Given as goal

abbrev pub invariant-loop-slot : goal.invariant-loop-slot
invariant-loop-slot g l = record {
  goes : StaysOrGoes l.fn.table l.table;
  others : StaysUnkept l.fn.table l.table;
  leaves : LeavesThere l.fn.table l.table;
  size : length l.table.slots ≡ length l.fn.table.slots;
  rest : l.table ≡ record l.fn.table { slots = l.table.slots };
  noted : (count ended_room : ℕ) → AreNoted l.fn.table.slots count l.fn.notes.free l.fn.notes.entries l.fn.notes.slot_room ended_room → AreNoted l.table.slots count l.notes.free l.notes.entries l.notes.slot_room ended_room;
  alive : AreAlive l.fn.table.slots → AreAlive l.table.slots;
  stands : (calls : List Planned) (past : List HistoryEntry) (p : Planned) → IsNextCall calls past p → sweeps_at l.fn.table.shut p.1 ≡ true → StandsBefore l.fn.table calls past h.Call → StandsBefore l.table calls past h.Call;
  purges : (calls : List Planned) (past : List HistoryEntry) → StandsBefore l.fn.table calls past h.Purge → StandsBefore l.table calls past h.Purge;
}

abbrev pub decreases-loop-slot : goal.decreases-loop-slot
decreases-loop-slot g l = kept_in l.table.slots
