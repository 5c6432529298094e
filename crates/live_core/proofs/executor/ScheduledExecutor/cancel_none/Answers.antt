-- No task has changed.
use Rattle.std.proofs.Common.{vec_capacity, refl, subst}
use Rattle.live_core.specs.Lives.{LiveView, StaysQuiet}
use Rattle.live_core.proofs.Cancelled.{outside_none}
use Rattle.live_core.proofs.Leaving.{leaves_still, stays_left}
use Rattle.live_core.proofs.executor.ScheduledExecutor.cancel_none.Goals as goal

pub returns-clause-happens : goal.returns-clause-happens
returns-clause-happens g c =
    let e = c.self.inside in
    let m : LiveView = record { table = e.table; count = e.count; accepted = e.accepted; earliest = e.earliest; ended = e.ended.items } in
    λ k far. outside_none m c.args.self.now c.clear.new.self.items k c.self.view_is c.clear.ensures.items far

pub returns-clause-stays : goal.returns-clause-stays
returns-clause-stays g c =
    let e = c.self.inside in
    let m : LiveView = record { table = e.table; count = e.count; accepted = e.accepted; earliest = e.earliest; ended = e.ended.items } in
    let new : LiveView = record m { ended = c.clear.new.self.items } in
    subst (λ (v : LiveView). StaysQuiet v new v.count) c.self.view_is (record {
      stays = stays_left m new e.notes.free e.notes.entries e.notes.slot_room (vec_capacity e.ended) refl refl (leaves_still e.table e.table refl) c.self.invariant.noted c.self.invariant.alive;
      ended = c.clear.ensures.items;
    })
