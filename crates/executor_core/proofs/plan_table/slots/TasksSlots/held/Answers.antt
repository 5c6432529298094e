use Rattle.std.proofs.Common.{Some, ap, sym, ◌∙◌}
use Rattle.executor_core.specs.plan_table.Numbered.{seat_of}
use Rattle.executor_core.proofs.plan_table.Numbered.{held_there, slot_within}
use Rattle.executor_core.proofs.plan_table.slots.TasksSlots.held.Goals as goal

pub task-requires : goal.task-requires
task-requires g c = slot_within c.args.self.now c.args.slot c.requires.0 c.requires.1

pub returns : goal.returns
returns g c =
    c.requires.1 ∙ ap Some ((held_there c.args.self.now c.args.slot c.requires.0 c.requires.1).seat ∙ ap (seat_of c.args.slot) (sym c.task.ensures) ∙ ap (λ n. seat_of n c.task.result) (sym c.from.ensures) ∙ sym c.seat_of.ensures)
