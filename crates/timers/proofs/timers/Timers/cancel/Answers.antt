-- A cancel ends no task.
use Rattle.timers.proofs.Kept.{calm_kept}
use Rattle.timers.proofs.timers.Timers.cancel.Goals as goal

pub invariant_of-self : goal.invariant_of-self
invariant_of-self g c =
    let e = c.self.inside in
    calm_kept e.executor c.cancel.new.self e.user_data.items c.cancel.ensures.stays c.self.invariant
