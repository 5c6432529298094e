-- A question ends no task.
use Rattle.std.proofs.Common.{subst}
use Rattle.timers.specs.Timers.{TimersView, GivesNone}
use Rattle.timers.specs.own.Rooms.{seen}
use Rattle.timers.proofs.Kept.{quiet_or_same, quiet_kept}
use Rattle.timers.proofs.timers.Timers.ask.Goals as goal

pub returns-clause-keeps : goal.returns-clause-keeps
returns-clause-keeps g c =
    let kept = c.self.inside.user_data.items in
    let new = c.ask.new.self in
    subst (λ (v : TimersView). GivesNone v (seen new kept)) c.self.view_is
    (quiet_or_same c.ask.result c.self.inside.executor new kept c.ask.ensures.stays c.ask.ensures.refused)

pub invariant_of-self : goal.invariant_of-self
invariant_of-self g c =
    let e = c.self.inside in
    quiet_kept c.ask.result e.executor c.ask.new.self e.user_data.items c.ask.ensures.stays c.ask.ensures.refused c.self.invariant
