-- The notes have the empty slots.
use Rattle.std.proofs.Common.{sym, subst}
use Rattle.live_core.specs.Empties.{held_numbers, AreEmpty}
use Rattle.live_core.specs.Lives.{LiveView}
use Rattle.live_core.proofs.executor.ScheduledExecutor.empty_slots.Goals as goal

pub returns : goal.returns
returns g c =
    subst (AreEmpty (held_numbers c.args.self.now.table.slots)) (sym c.empty_slots.ensures)
    (subst (λ (m : LiveView). AreEmpty (held_numbers m.table.slots) c.self.inside.notes.free) c.self.view_is c.self.invariant.noted.empty)
