-- The lines of the tasks before this one are added.
use Rattle.std.proofs.Common.{◌≡◌, ◌++◌, map, take, vec_capacity}
use Rattle.executor_model.specs.Flows.{end_line}
use Rattle.live_core.proofs.lines.push_ends.Given as goal

abbrev pub invariant-loop-task : goal.invariant-loop-task
invariant-loop-task g l = record {
  lines : l.lines.items ≡ l.fn.lines.items ++ map (λ t. end_line l.moment t.number) (take l.task-index l.ended);
  room : vec_capacity l.lines ≡ vec_capacity l.fn.lines;
}
