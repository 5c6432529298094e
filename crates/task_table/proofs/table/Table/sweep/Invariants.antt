-- The slots before this one are swept, and the tasks in them that are ended are found.
use Rattle.std.proofs.Common.{◌≡◌, take, vec_capacity}
use Rattle.task_table.specs.Ends.{ends_task}
use Rattle.task_table.specs.own.Found.{found, partly}
use Rattle.task_table.proofs.table.Table.sweep.Given as goal

abbrev pub invariant-loop-slot : goal.invariant-loop-slot
invariant-loop-slot g l = record {
  swept : l.self ≡ partly l.initial.self l.slot;
  found : l.ends.items ≡ found (ends_task l.initial.self) 0 (take l.slot l.initial.self.slots);
  room : vec_capacity l.ends ≡ vec_capacity l.initial.ends;
}
