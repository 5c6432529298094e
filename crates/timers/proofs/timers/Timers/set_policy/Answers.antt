-- What a policy ends was in its slot.
use Rattle.std.proofs.Common.{subst}
use Rattle.timers.specs.Timers.{TimersView, GivesNone}
use Rattle.timers.specs.own.Rooms.{seen}
use Rattle.timers.proofs.Kept.{swept_or_same, swept_kept}
use Rattle.timers.proofs.timers.Timers.set_policy.Goals as goal

pub returns-clause-keeps : goal.returns-clause-keeps
returns-clause-keeps g c =
    let kept = c.self.inside.user_data.items in
    let new = c.set_policy.new.self in
    subst (λ (v : TimersView). GivesNone v (seen new kept)) c.self.view_is
    (swept_or_same c.set_policy.result c.self.inside.executor new kept c.set_policy.ensures.stays c.set_policy.ensures.gone c.set_policy.ensures.refused)

pub invariant_of-self : goal.invariant_of-self
invariant_of-self g c =
    let e = c.self.inside in
    swept_kept c.set_policy.result e.executor c.set_policy.new.self e.user_data.items c.set_policy.ensures.stays c.set_policy.ensures.gone c.set_policy.ensures.refused c.self.invariant
