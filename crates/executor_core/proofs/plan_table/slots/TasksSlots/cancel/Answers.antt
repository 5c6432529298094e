use Rattle.std.proofs.Common.{true, ap, ◌∙◌}
use Rattle.executor_model.specs.declared.task.Task.{Task}
use Rattle.executor_core.proofs.plan_table.Numbered.{held_there, slot_within, marked_there, marks_keeping, marks_alone}
use Rattle.executor_core.proofs.plan_table.slots.TasksSlots.cancel.Goals as goal

pub mark-requires-clause-known : goal.mark-requires-clause-known
mark-requires-clause-known g c = slot_within c.args.self.now c.args.slot c.args._seat c.requires.there

pub mark-requires-clause-accepted : goal.mark-requires-clause-accepted
mark-requires-clause-accepted g c = (held_there c.args.self.now c.args.slot c.args._seat c.requires.there).accepted

pub mark-requires-clause-live : goal.mark-requires-clause-live
mark-requires-clause-live g c = ap (λ (t : Task). t.cancelled) (held_there c.args.self.now c.args.slot c.args._seat c.requires.there).task ∙ c.requires.live

pub keep-requires-clause-known : goal.keep-requires-clause-known
keep-requires-clause-known g c = slot_within c.mark.new.self c.args.slot (record c.args._seat { cancelled = true }) (marked_there c.args.self.now c.mark.new.self c.args.slot c.args._seat c.requires.there c.mark.ensures)

pub keep-requires-clause-accepted : goal.keep-requires-clause-accepted
keep-requires-clause-accepted g c = (held_there c.mark.new.self c.args.slot (record c.args._seat { cancelled = true }) (marked_there c.args.self.now c.mark.new.self c.args.slot c.args._seat c.requires.there c.mark.ensures)).accepted

pub returns-then-keeps : goal.returns-then-keeps
returns-then-keeps g c = marks_keeping c.args.self.now c.mark.new.self c.keep.new.self c.args.slot c.args._seat c.args.keeps c.requires.there c.mark.ensures c.keep.ensures c.if-keeps.true

pub returns-else-keeps : goal.returns-else-keeps
returns-else-keeps g c = marks_alone c.args.self.now c.mark.new.self c.args.slot c.args._seat c.args.keeps c.requires.there c.mark.ensures c.if-keeps.false
