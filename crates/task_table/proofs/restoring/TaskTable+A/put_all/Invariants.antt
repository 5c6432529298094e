-- The tasks before this one are in their slots.
use Rattle.task_table.specs.own.Restoring.{IsPart, KeepsFrame}
use Rattle.task_table.proofs.restoring.TaskTable+A.put_all.Given as goal

abbrev pub invariant-loop-image : goal.invariant-loop-image
invariant-loop-image g l = record {
  part : IsPart l.self l.written l.image-index;
  frame : KeepsFrame l.initial.self l.self;
}
