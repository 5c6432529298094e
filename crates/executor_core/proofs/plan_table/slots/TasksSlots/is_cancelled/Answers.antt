use Rattle.std.proofs.Common.{ap, ◌∙◌}
use Rattle.executor_model.specs.declared.task.Task.{Task}
use Rattle.executor_core.proofs.plan_table.Numbered.{held_there, slot_within}
use Rattle.executor_core.proofs.plan_table.slots.TasksSlots.is_cancelled.Goals as goal

pub task-requires : goal.task-requires
task-requires g c = slot_within c.args.self.now c.args.slot c.requires.0 c.requires.1

pub returns : goal.returns
returns g c = λ x there. ap (λ (t : Task). t.cancelled) (c.task.ensures ∙ (held_there c.args.self.now c.args.slot x there).task)
