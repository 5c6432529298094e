-- The slots that are passed are swept, a line for each task that was ended.
use Rattle.std.proofs.Common.{◌≡◌, ◌+◌, ◌-◌, ◌≤◌, ◌++◌, length, map}
use Rattle.std.specs.Prelude.{vec_len, vec_capacity}
use Rattle.std.specs.List.{filter, range_with_len}
use Rattle.executor_model.specs.Flows.{end_line}
use Rattle.executor_model.specs.Tasks.{uncancelled_in}
use Rattle.task_table.specs.Ends.{ends_at_slot}
use Rattle.task_table.specs.own.Found.{partly}
use Rattle.executor_core.specs.plan_table.Numbered.{tasks_at}
use Rattle.executor_core.proofs.machine.sweeps.end_tasks.Given as goal

abbrev pub invariant-loop-task : goal.invariant-loop-task
invariant-loop-task g l = record {
  within : l.task ≤ length l.fn.table.slots;
  swept : l.table ≡ partly l.fn.table l.task;
  lines : l.out.items ≡ l.fn.out.items ++ map (end_line l.fn.table.moment) (filter (λ i. ends_at_slot l.fn.table i) (range_with_len 0 l.task));
  room : vec_len l.out + uncancelled_in (tasks_at l.table.slots) ≡ vec_len l.fn.out + uncancelled_in (tasks_at l.fn.table.slots);
  capacity : vec_capacity l.out ≡ vec_capacity l.fn.out;
}

abbrev pub decreases-loop-task : goal.decreases-loop-task
decreases-loop-task g l = length l.fn.table.slots - l.task
