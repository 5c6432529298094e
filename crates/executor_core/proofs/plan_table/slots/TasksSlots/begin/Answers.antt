use Rattle.std.proofs.Common.{ap, sym, ◌∙◌}
use Rattle.executor_model.specs.declared.task.Task.{Task}
use Rattle.task_table.specs.Changes.{begun}
use Rattle.executor_core.proofs.plan_table.Numbered.{held_there, slot_within, put}
use Rattle.executor_core.proofs.plan_table.slots.TasksSlots.begin.Goals as goal

pub start-requires-clause-known : goal.start-requires-clause-known
start-requires-clause-known g c = slot_within c.args.self.now c.args.slot c.args._seat c.requires.there

pub start-requires-clause-phase : goal.start-requires-clause-phase
start-requires-clause-phase g c = ap (λ (t : Task). t.phase) (held_there c.args.self.now c.args.slot c.args._seat c.requires.there).task ∙ c.requires.waits.0

pub start-requires-clause-live : goal.start-requires-clause-live
start-requires-clause-live g c = ap (λ (t : Task). t.cancelled) (held_there c.args.self.now c.args.slot c.args._seat c.requires.there).task ∙ c.requires.waits.1

pub returns : goal.returns
returns g c =
    let held = held_there c.args.self.now c.args.slot c.args._seat c.requires.there in
    put c.args.self.now c.start.new.self c.args.slot _ _ (slot_within c.args.self.now c.args.slot c.args._seat c.requires.there) c.start.ensures (λ q. absurd cc) (ap begun (sym held.seat))
