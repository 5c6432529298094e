-- A purge ends no task.
use Rattle.timers.proofs.Kept.{calm_kept}
use Rattle.timers.proofs.timers.Timers.purge.Goals as goal

pub invariant_of-self : goal.invariant_of-self
invariant_of-self g c =
    let e = c.self.inside in
    calm_kept e.executor c.purge.new.self e.user_data.items c.purge.ensures.stays c.self.invariant
