-- Its own slot holds it.
use Rattle.std.proofs.Common.{sym, ◌∙◌}
use Rattle.live_core.proofs.Seated.{held_there}
use Rattle.live_core.proofs.finding.slot_of_task.Goals as goal

pub returns-then-holds : goal.returns-then-holds
returns-then-holds g c = held_there c.args.table.now.slots c.args.task (sym c.holds.ensures ∙ c.if-holds.true)
