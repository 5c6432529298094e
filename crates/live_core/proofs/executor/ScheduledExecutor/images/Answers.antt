-- The notes index the table.
use Rattle.std.proofs.Common.{subst}
use Rattle.std.specs.Prelude.{IfOk}
use Rattle.task_table.specs.Images.{AreImages}
use Rattle.live_core.specs.Lives.{LiveView}
use Rattle.live_core.proofs.executor.ScheduledExecutor.images.Goals as goal

pub images-requires : goal.images-requires
images-requires g c = (c.self.inside.count, c.self.invariant.noted.index)

pub returns : goal.returns
returns g c = subst (λ (m : LiveView). IfOk c.images.result (λ v. AreImages m.table v.items)) c.self.view_is c.images.ensures
