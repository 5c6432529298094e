-- A number that was not given out counts as one that no task ever has.
use Rattle.std.proofs.Common.{◌+◌, refl, ap, arith}
use Rattle.live_core.specs.Lives.{LiveView, never}
use Rattle.live_core.proofs.executor.ScheduledExecutor.cancel_at.Goals as goal

pub returns-then-number-self-clause-failed : goal.returns-then-number-self-clause-failed
returns-then-number-self-clause-failed g c = record {
  is = refl;
  free = omega (arith, c.if-number-self.true, ap (λ (v : LiveView). v.count) c.self.view_is);
  unchanged = c.cancel_none.ensures.is;
  happens = c.cancel_none.ensures.happens (never + c.args.number) (omega arith);
}
