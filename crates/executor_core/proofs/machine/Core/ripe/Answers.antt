-- The table tells whether a task is ripe.
use Rattle.executor_core.proofs.Needing.{ripe_there, ripe_here}
use Rattle.executor_core.proofs.machine.Core.ripe.Goals as goal

pub returns : goal.returns
returns g c =
    let m = c.self.inside in (
      λ q. ripe_there m.calls.items m.limit m.taken m.calls.made m.table m.sought c.args.self.now c.self.invariant c.self.view_is (c.is_ripe.ensures.0 q),
      λ ripe. c.is_ripe.ensures.1 (ripe_here m.calls.items m.limit m.taken m.calls.made m.table m.sought c.args.self.now c.self.invariant c.self.view_is ripe),
    )
