-- The kept tasks leave their slots, and the purge takes its step.
use Rattle.std.proofs.Common.{vec_capacity, refl, ap, subst}
use Rattle.task_table.specs.Tables.{TableView, workers_of}
use Rattle.live_core.specs.Lives.{LiveView, StaysQuiet}
use Rattle.live_core.specs.Purges.{Purges}
use Rattle.live_core.proofs.Purged.{purges_there}
use Rattle.live_core.proofs.Occurring.{live_steps}
use Rattle.live_core.proofs.Leaving.{leaves_numbers, stays_left}
use Rattle.live_core.proofs.executor.ScheduledExecutor.purge.Goals as goal

pub invariant_of-self : goal.invariant_of-self
invariant_of-self g c =
    let e = c.self.inside in
    let m : LiveView = record { table = e.table; count = e.count; accepted = e.accepted; earliest = e.earliest; ended = e.ended.items } in
    let d = c.drop_kept in
    live_steps m d.new.table c.clear.new.self.items e.notes.free e.notes.entries e.notes.slot_room (vec_capacity e.ended) d.new.notes.free d.new.notes.entries d.new.notes.slot_room (vec_capacity c.clear.new.self) c.self.invariant
    (ap (λ (v : TableView). v.moment) d.ensures.rest) (ap (λ (v : TableView). v.shut) d.ensures.rest) c.clear.ensures.capacity (d.ensures.noted e.count (vec_capacity e.ended) c.self.invariant.noted) (d.ensures.alive c.self.invariant.alive)

pub returns-clause-purged : goal.returns-clause-purged
returns-clause-purged g c =
    let e = c.self.inside in
    let m : LiveView = record { table = e.table; count = e.count; accepted = e.accepted; earliest = e.earliest; ended = e.ended.items } in
    let d = c.drop_kept in
    subst (λ (v : LiveView). Purges v (record m { table = d.new.table; ended = c.clear.new.self.items })) c.self.view_is
    (purges_there m d.new.table c.clear.new.self.items c.clear.ensures.items d.ensures.rest d.ensures.leaves d.ensures.others d.ensures.gone d.ensures.purges)

pub returns-clause-stays : goal.returns-clause-stays
returns-clause-stays g c =
    let e = c.self.inside in
    let m : LiveView = record { table = e.table; count = e.count; accepted = e.accepted; earliest = e.earliest; ended = e.ended.items } in
    let d = c.drop_kept in
    let new : LiveView = record m { table = d.new.table; ended = c.clear.new.self.items } in
    subst (λ (v : LiveView). StaysQuiet v new v.count) c.self.view_is
    (record {
      stays = stays_left m new d.new.notes.free d.new.notes.entries d.new.notes.slot_room (vec_capacity e.ended) (ap workers_of d.ensures.rest) refl (leaves_numbers m.table d.new.table d.ensures.leaves d.ensures.size)
          (d.ensures.noted e.count (vec_capacity e.ended) c.self.invariant.noted) (d.ensures.alive c.self.invariant.alive);
      ended = c.clear.ensures.items;
    })
