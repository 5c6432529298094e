-- The slots of the tasks before this one are empty, and those behind it are where they were.
use Rattle.std.proofs.Common.{◌≡◌, ℕ, List, length, take, drop}
use Rattle.std.specs.List.{All}
use Rattle.queue_code.specs.Calls.{Planned}
use Rattle.executor_model.specs.Histories.{HistoryEntry}
use Rattle.task_table.specs.Tables.{Stands}
use Rattle.live_core.specs.own.Places.{IsEmptyAt}
use Rattle.live_core.specs.own.Formed.{AreNoted}
use Rattle.live_core.proofs.Alive.{LeavesThere}
use Rattle.live_core.proofs.Swept.{AreOver}
use Rattle.live_core.proofs.sweeps.release_each.Given as goal

abbrev pub invariant-loop-task : goal.invariant-loop-task
invariant-loop-task g l = record {
  rest : l.table ≡ record l.fn.table { slots = l.table.slots };
  noted : (count ended_room : ℕ) → AreNoted l.fn.table.slots count l.fn.notes.free l.fn.notes.entries l.fn.notes.slot_room ended_room → AreNoted l.table.slots count l.notes.free l.notes.entries l.notes.slot_room ended_room;
  leaves : LeavesThere l.fn.table l.table;
  size : length l.table.slots ≡ length l.fn.table.slots;
  stands : (calls : List Planned) (past : List HistoryEntry) → Stands l.fn.table calls past → Stands l.table calls past;
  over : AreOver l.table (drop l.task-index l.tasks);
  gone : All (IsEmptyAt l.table) (take l.task-index l.tasks);
}
