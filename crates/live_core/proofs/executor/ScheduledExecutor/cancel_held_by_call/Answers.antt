-- The table takes the step, and the slot is emptied where its task is over.
use Rattle.std.proofs.Common.{arith, ap, ◌∙◌, Some, refl, sym, subst, vec_capacity}
use Rattle.queue_code.specs.declared.call.CodeCall.TheVariants as call
use Rattle.executor_model.specs.declared.types.Answer.TheVariants as answer
use Rattle.executor_model.specs.Answers.{bare}
use Rattle.task_table.specs.Tables.{TableView}
use Rattle.live_core.specs.Lives.{LiveView, Calls, StaysQuiet}
use Rattle.live_core.specs.own.Places.{IsSlotOf}
use Rattle.live_core.proofs.Cancelled.{may_cancel, by_call_held, unshut_held}
use Rattle.live_core.proofs.Alive.{alive_cancelled}
use Rattle.live_core.proofs.Living.{live_on}
use Rattle.live_core.proofs.Seated.{cancelled_numbers, cancelled_by_call, cancelled_noted, cancelled_there}
use Rattle.live_core.proofs.Leaving.{leaves_same, leaves_more, stays_left}
use Rattle.live_core.proofs.executor.ScheduledExecutor.cancel_held_by_call.Goals as goal

pub release_spent-requires : goal.release_spent-requires
release_spent-requires g c =
    let e = c.self.inside in
    let m : LiveView = record { table = e.table; count = e.count; accepted = e.accepted; earliest = e.earliest; ended = e.ended.items } in
    let k = c.args.number in
    let mid = c.cancel_by_call-effect.new.self in
    let own = subst (λ (v : LiveView). IsSlotOf v.table.slots k (Some c.args.slot)) (sym c.self.view_is) c.requires.held in
    let is = cancelled_by_call e.table mid c.args.slot c.args.moment own.0 (c.cancel_by_call-effect.ensures.slots own.0 own.1) in
    let room = vec_capacity e.ended in
    (e.count, room, cancelled_noted e.table mid c.args.slot own.0 e.count e.notes.free e.notes.entries e.notes.slot_room room room is own.1 refl c.self.invariant.noted)

pub invariant_of-self : goal.invariant_of-self
invariant_of-self g c =
    let e = c.self.inside in
    let m : LiveView = record { table = e.table; count = e.count; accepted = e.accepted; earliest = e.earliest; ended = e.ended.items } in
    let k = c.args.number in
    let mid = c.cancel_by_call-effect.new.self in
    let own = subst (λ (v : LiveView). IsSlotOf v.table.slots k (Some c.args.slot)) (sym c.self.view_is) c.requires.held in
    let is = cancelled_by_call e.table mid c.args.slot c.args.moment own.0 (c.cancel_by_call-effect.ensures.slots own.0 own.1) in
    let table = c.release_spent.new.table in
    let new : LiveView = record m { table = table; ended = c.clear.new.self.items } in
    let notes = c.release_spent.new.notes in
    let room = vec_capacity c.clear.new.self in
    live_on m new e.notes.free e.notes.entries e.notes.slot_room (vec_capacity e.ended) notes.free notes.entries notes.slot_room room c.self.invariant c.self.invariant.few refl
    (omega (arith, c.release_spent.ensures.stands.moment, ap (λ (v : TableView). v.moment) (c.cancel_by_call-effect.ensures.slots own.0 own.1), ap (λ (v : LiveView). v.table.moment) c.self.view_is, c.requires.ahead))
    (unshut_held m mid table c.args.slot own.0 is c.release_spent.ensures.stands c.self.invariant.unshut)
    (c.release_spent.ensures.noted e.count room (cancelled_noted e.table mid c.args.slot own.0 e.count e.notes.free e.notes.entries e.notes.slot_room (vec_capacity e.ended) room is own.1 c.clear.ensures.capacity c.self.invariant.noted))
    (c.release_spent.ensures.all (alive_cancelled e.table mid c.args.slot own.0 is c.self.invariant.alive))

pub returns-clause-makes : goal.returns-clause-makes
returns-clause-makes g c =
    let e = c.self.inside in
    let m : LiveView = record { table = e.table; count = e.count; accepted = e.accepted; earliest = e.earliest; ended = e.ended.items } in
    let k = c.args.number in
    let mid = c.cancel_by_call-effect.new.self in
    let own = subst (λ (v : LiveView). IsSlotOf v.table.slots k (Some c.args.slot)) (sym c.self.view_is) c.requires.held in
    let is = cancelled_by_call e.table mid c.args.slot c.args.moment own.0 (c.cancel_by_call-effect.ensures.slots own.0 own.1) in
    let table = c.release_spent.new.table in
    let new : LiveView = record m { table = table; ended = c.clear.new.self.items } in
    let may = may_cancel m c.args.self.now c.args.moment k c.self.view_is c.self.invariant.few c.requires.given c.requires.early c.requires.ahead c.requires.limit in
    subst (λ (v : LiveView). Calls v new (c.args.moment, call.Cancel k) (bare (answer.Cancel k c.cancel_by_call-effect.result))) c.self.view_is
    (by_call_held m mid table c.clear.new.self.items c.args.moment c.args.slot k own.0 c.cancel_by_call-effect.result is own.2 may c.release_spent.ensures.stands (c.cancel_by_call-effect.ensures.steps own.0 own.1))

pub returns-clause-held : goal.returns-clause-held
returns-clause-held g c =
    let e = c.self.inside in
    let m : LiveView = record { table = e.table; count = e.count; accepted = e.accepted; earliest = e.earliest; ended = e.ended.items } in
    let k = c.args.number in
    let mid = c.cancel_by_call-effect.new.self in
    let own = subst (λ (v : LiveView). IsSlotOf v.table.slots k (Some c.args.slot)) (sym c.self.view_is) c.requires.held in
    let is = cancelled_by_call e.table mid c.args.slot c.args.moment own.0 (c.cancel_by_call-effect.ensures.slots own.0 own.1) in
    c.release_spent.ensures.alive k (cancelled_there e.table mid c.args.slot k own.0 is own.1 own.2)

pub returns-clause-stays : goal.returns-clause-stays
returns-clause-stays g c =
    let e = c.self.inside in
    let m : LiveView = record { table = e.table; count = e.count; accepted = e.accepted; earliest = e.earliest; ended = e.ended.items } in
    let k = c.args.number in
    let mid = c.cancel_by_call-effect.new.self in
    let own = subst (λ (v : LiveView). IsSlotOf v.table.slots k (Some c.args.slot)) (sym c.self.view_is) c.requires.held in
    let is = cancelled_by_call e.table mid c.args.slot c.args.moment own.0 (c.cancel_by_call-effect.ensures.slots own.0 own.1) in
    let new : LiveView = record m { table = c.release_spent.new.table; ended = c.clear.new.self.items } in
    let spent = c.release_spent in
    let room = vec_capacity e.ended in
    let leaves = leaves_more e.table.slots mid.slots spent.new.table.slots (leaves_same e.table.slots mid.slots (cancelled_numbers e.table mid c.args.slot own.0 is own.1)) spent.ensures.leaves in
    let noted = spent.ensures.noted e.count room (cancelled_noted e.table mid c.args.slot own.0 e.count e.notes.free e.notes.entries e.notes.slot_room room room is own.1 refl c.self.invariant.noted) in
    subst (λ (v : LiveView). StaysQuiet v new v.count) c.self.view_is (record {
      stays = stays_left m new spent.new.notes.free spent.new.notes.entries spent.new.notes.slot_room room (spent.ensures.stands.workers ∙ is.workers) refl leaves noted
          (spent.ensures.all (alive_cancelled e.table mid c.args.slot own.0 is c.self.invariant.alive));
      ended = c.clear.ensures.items;
    })
