use Rattle.std.proofs.Common.{◌∙◌, sym}
use Rattle.executor_core.proofs.plan_table.Numbered.{slots_length}
use Rattle.executor_core.proofs.plan_table.slots.TasksSlots.len.Goals as goal

pub returns : goal.returns
returns g c = c.count.ensures ∙ sym (slots_length 0 c.args.self.now)
