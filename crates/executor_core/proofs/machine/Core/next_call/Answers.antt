use Rattle.std.proofs.Common.{◌≤◌, ap, ◌∙◌, subst}
use Rattle.std.specs.Prelude.{slice_get}
use Rattle.executor_core.specs.CoreView.{CoreView}
use Rattle.executor_core.proofs.machine.Core.next_call.Goals as goal

pub returns-clause-ahead : goal.returns-clause-ahead
returns-clause-ahead g c = λ p is.
    subst (λ (x : CoreView). x.moment ≤ p.0) c.self.view_is (c.self.invariant.ahead p (ap (λ (x : CoreView). slice_get x.calls x.made) c.self.view_is ∙ is))
