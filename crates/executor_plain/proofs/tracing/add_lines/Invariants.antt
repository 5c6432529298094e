use Rattle.std.proofs.Common.{◌≡◌, ◌∷◌, ◌++◌, map, take}
use Rattle.executor_model.specs.Flows.{answer_line, end_line}
use Rattle.executor_plain.proofs.tracing.add_lines.Given as goal

abbrev pub invariant-loop-task : goal.invariant-loop-task
invariant-loop-task g l = l.lines.items ≡ l.fn.lines.items ++ answer_line l.moment l.fn.entry.answer ∷ map (end_line l.moment) (take l.task-index l.fn.entry.ends)
