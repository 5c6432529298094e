-- The tasks before this one ascend.
use Rattle.std.proofs.Common.{◌-◌, ◌≤◌, length}
use Rattle.task_table.specs.own.Restoring.{Climbs}
use Rattle.task_table.proofs.restoring.are_ascending.Given as goal

abbrev pub invariant-loop-i : goal.invariant-loop-i
invariant-loop-i l = record {
  some : 1 ≤ l.i;
  climbs : Climbs l.written l.i;
}

abbrev pub decreases-loop-i : goal.decreases-loop-i
decreases-loop-i l = length l.written - l.i
