-- Each part is that of the executor.
use Rattle.std.proofs.Common.{refl, subst}
use Rattle.live_core.specs.Lives.{LiveView}
use Rattle.live_core.specs.Snapshots.{HasFrame}
use Rattle.live_core.proofs.executor.ScheduledExecutor.frame.Goals as goal

pub returns : goal.returns
returns g c =
    let e = c.self.inside in
    subst (λ (m : LiveView). HasFrame m (record { table = c.frame.result; earliest = e.earliest; count = e.count; accepted = e.accepted })) c.self.view_is
    (record { table = c.frame.ensures; earliest = refl; count = refl; accepted = refl })
