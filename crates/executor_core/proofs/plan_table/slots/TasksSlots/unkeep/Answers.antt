use Rattle.std.proofs.Common.{false}
use Rattle.executor_core.proofs.plan_table.Numbered.{held_there, slot_within, keeps_so}
use Rattle.executor_core.proofs.plan_table.slots.TasksSlots.unkeep.Goals as goal

pub keep-requires-clause-known : goal.keep-requires-clause-known
keep-requires-clause-known g c = slot_within c.args.self.now c.args.slot c.args._seat c.requires.there

pub keep-requires-clause-accepted : goal.keep-requires-clause-accepted
keep-requires-clause-accepted g c = (held_there c.args.self.now c.args.slot c.args._seat c.requires.there).accepted

pub returns : goal.returns
returns g c = keeps_so c.args.self.now c.keep.new.self c.args.slot c.args._seat false c.requires.there c.keep.ensures
