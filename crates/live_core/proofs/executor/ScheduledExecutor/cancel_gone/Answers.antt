-- Its history tells what a cancel does to it.
use Rattle.std.proofs.Common.{vec_capacity, refl, sym, subst}
use Rattle.task_table.specs.Seats.{IsNew}
use Rattle.live_core.specs.Lives.{LiveView, StaysQuiet}
use Rattle.live_core.proofs.Cancelled.{outside_gone}
use Rattle.live_core.proofs.Seated.{new_alive}
use Rattle.live_core.proofs.Leaving.{leaves_still, stays_left}
use Rattle.live_core.proofs.executor.ScheduledExecutor.cancel_gone.Goals as goal

pub returns-clause-happens : goal.returns-clause-happens
returns-clause-happens g c =
    let e = c.self.inside in
    let m : LiveView = record { table = e.table; count = e.count; accepted = e.accepted; earliest = e.earliest; ended = e.ended.items } in
    outside_gone m c.args.self.now c.clear.new.self.items c.args.number c.effect_without.result c.self.view_is c.clear.ensures.items c.effect_without.ensures c.requires.gone c.requires.given

pub returns-clause-held : goal.returns-clause-held
returns-clause-held g c =
    new_alive c.self.inside.table c.args.number (subst (λ (v : LiveView). IsNew v.table.slots c.args.number) (sym c.self.view_is) c.requires.gone)

pub returns-clause-stays : goal.returns-clause-stays
returns-clause-stays g c =
    let e = c.self.inside in
    let m : LiveView = record { table = e.table; count = e.count; accepted = e.accepted; earliest = e.earliest; ended = e.ended.items } in
    let new : LiveView = record m { ended = c.clear.new.self.items } in
    subst (λ (v : LiveView). StaysQuiet v new v.count) c.self.view_is (record {
      stays = stays_left m new e.notes.free e.notes.entries e.notes.slot_room (vec_capacity e.ended) refl refl (leaves_still e.table e.table refl) c.self.invariant.noted c.self.invariant.alive;
      ended = c.clear.ensures.items;
    })
