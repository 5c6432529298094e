-- What a shutdown ends was in its slot.
use Rattle.std.proofs.Common.{subst}
use Rattle.timers.specs.Timers.{TimersView, GivesNone}
use Rattle.timers.specs.own.Rooms.{seen}
use Rattle.timers.proofs.Kept.{swept_or_same, swept_kept}
use Rattle.timers.proofs.timers.Timers.shut_down.Goals as goal

pub returns-clause-keeps : goal.returns-clause-keeps
returns-clause-keeps g c =
    let kept = c.self.inside.user_data.items in
    let new = c.shut_down.new.self in
    subst (λ (v : TimersView). GivesNone v (seen new kept)) c.self.view_is
    (swept_or_same c.shut_down.result c.self.inside.executor new kept c.shut_down.ensures.stays c.shut_down.ensures.gone c.shut_down.ensures.refused)

pub invariant_of-self : goal.invariant_of-self
invariant_of-self g c =
    let e = c.self.inside in
    swept_kept c.shut_down.result e.executor c.shut_down.new.self e.user_data.items c.shut_down.ensures.stays c.shut_down.ensures.gone c.shut_down.ensures.refused c.self.invariant
