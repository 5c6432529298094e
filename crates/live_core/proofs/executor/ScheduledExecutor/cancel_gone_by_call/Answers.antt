-- Its history tells what a cancel does to it, and the call moves the moment.
use Rattle.std.proofs.Common.{refl, ap, ◌∙◌, sym, subst, vec_capacity, arith}
use Rattle.queue_code.specs.declared.call.CodeCall.TheVariants as call
use Rattle.executor_model.specs.declared.types.Answer.TheVariants as answer
use Rattle.executor_model.specs.Answers.{bare}
use Rattle.task_table.specs.Tables.{TableView, workers_of}
use Rattle.live_core.specs.Lives.{LiveView, Calls, StaysQuiet, AreAlive}
use Rattle.live_core.specs.own.Formed.{AreNoted}
use Rattle.live_core.proofs.Cancelled.{may_cancel, by_call_gone}
use Rattle.live_core.proofs.Living.{live_on}
use Rattle.live_core.proofs.Called.{noted_same_room}
use Rattle.live_core.proofs.Leaving.{leaves_still, stays_left}
use Rattle.live_core.proofs.executor.ScheduledExecutor.cancel_gone_by_call.Goals as goal

pub invariant_of-self : goal.invariant_of-self
invariant_of-self g c =
    let e = c.self.inside in
    let m : LiveView = record { table = e.table; count = e.count; accepted = e.accepted; earliest = e.earliest; ended = e.ended.items } in
    let table = c.pass.new.self in
    let new : LiveView = record m { table = table; ended = c.clear.new.self.items } in
    live_on m new e.notes.free e.notes.entries e.notes.slot_room (vec_capacity e.ended) e.notes.free e.notes.entries e.notes.slot_room (vec_capacity c.clear.new.self) c.self.invariant c.self.invariant.few refl
    (omega (arith, ap (λ (t : TableView). t.moment) c.pass.ensures.slots, ap (λ (v : LiveView). v.table.moment) c.self.view_is, c.requires.ahead))
    (λ q. c.self.invariant.unshut (sym (ap (λ (t : TableView). t.shut) c.pass.ensures.slots) ∙ q))
    (subst (λ room. AreNoted table.slots e.count e.notes.free e.notes.entries e.notes.slot_room room) (sym c.clear.ensures.capacity)
    (subst (λ slots. AreNoted slots e.count e.notes.free e.notes.entries e.notes.slot_room (vec_capacity e.ended)) (sym (ap (λ (t : TableView). t.slots) c.pass.ensures.slots)) c.self.invariant.noted))
    (subst (λ (t : TableView). AreAlive t.slots) (sym c.pass.ensures.slots) c.self.invariant.alive)

pub returns-clause-makes : goal.returns-clause-makes
returns-clause-makes g c =
    let e = c.self.inside in
    let m : LiveView = record { table = e.table; count = e.count; accepted = e.accepted; earliest = e.earliest; ended = e.ended.items } in
    let table = c.pass.new.self in
    let k = c.args.number in
    let new : LiveView = record m { table = table; ended = c.clear.new.self.items } in
    let may = may_cancel m c.args.self.now c.args.moment k c.self.view_is c.self.invariant.few c.requires.given c.requires.early c.requires.ahead c.requires.limit in
    subst (λ (v : LiveView). Calls v new (c.args.moment, call.Cancel k) (bare (answer.Cancel k c.effect_without.result))) c.self.view_is
    (by_call_gone m c.args.self.now table c.clear.new.self.items c.args.moment k c.effect_without.result c.self.view_is c.pass.ensures.slots c.clear.ensures.items c.effect_without.ensures c.requires.gone may)

pub returns-clause-stays : goal.returns-clause-stays
returns-clause-stays g c =
    let e = c.self.inside in
    let m : LiveView = record { table = e.table; count = e.count; accepted = e.accepted; earliest = e.earliest; ended = e.ended.items } in
    let table = c.pass.new.self in
    let new : LiveView = record m { table = table; ended = c.clear.new.self.items } in
    let same = ap (λ (t : TableView). t.slots) c.pass.ensures.slots in
    subst (λ (v : LiveView). StaysQuiet v new v.count) c.self.view_is (record {
      stays = stays_left m new e.notes.free e.notes.entries e.notes.slot_room (vec_capacity e.ended) (ap workers_of c.pass.ensures.slots) refl (leaves_still e.table table same)
          (noted_same_room e.table.slots table.slots e.count e.notes.free e.notes.entries e.notes.slot_room (vec_capacity e.ended) (vec_capacity e.ended) same refl c.self.invariant.noted)
          (subst (λ (t : TableView). AreAlive t.slots) (sym c.pass.ensures.slots) c.self.invariant.alive);
      ended = c.clear.ensures.items;
    })
