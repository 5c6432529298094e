-- Room is made, and a task comes into its slot.
use Rattle.std.proofs.Common.{◌+◌, ◌≤◌, sym, ◌∙◌, ℕ, vec_capacity, refl, ap, subst, arith}
use Rattle.queue_code.specs.declared.call.CodeCall.TheVariants as call
use Rattle.executor_model.specs.declared.types.Answer.TheVariants as answer
use Rattle.executor_model.specs.Answers.{bare, kind_of}
use Rattle.live_core.specs.Lives.{LiveView, Calls, StaysQuiet, never}
use Rattle.live_core.proofs.Living.{live_on}
use Rattle.live_core.proofs.Steps.{may_submit, accepts_there}
use Rattle.live_core.proofs.Leaving.{leaves_before, stays_noted}
use Rattle.live_core.proofs.executor.ScheduledExecutor.accept.Goals as goal

pub invariant_of-self-2 : goal.invariant_of-self-2
invariant_of-self-2 g c =
    let e = c.self.inside in
    let m : LiveView = record { table = e.table; count = e.count; accepted = e.accepted; earliest = e.earliest; ended = e.ended.items } in
    let placed = c.place-placed in
    let new : LiveView = record { table = placed.new.table; count = e.count + 1; accepted = e.accepted + 1; earliest = e.earliest; ended = placed.new.ended.items } in
    let unshut = c.self.invariant.unshut (ap (λ (v : LiveView). v.table.shut) c.self.view_is ∙ c.requires.unshut) in
    live_on m new e.notes.free e.notes.entries e.notes.slot_room (vec_capacity e.ended) placed.new.notes.free placed.new.notes.entries placed.new.notes.slot_room (vec_capacity placed.new.ended) c.self.invariant
    (subst (λ (v : LiveView). v.count + 1 ≤ never) (sym c.self.view_is) (omega (arith, c.requires.few))) refl
    (omega (arith, placed.ensures.moment, ap (λ (v : LiveView). v.table.moment) c.self.view_is, c.requires.ahead))
    (λ q. ap (λ (n : ℕ). n + 1) unshut) placed.ensures.noted (placed.ensures.alive (c.make_room.ensures.alive c.self.invariant.alive))

pub returns-clause-made : goal.returns-clause-made
returns-clause-made g c =
    let e = c.self.inside in
    let m : LiveView = record { table = e.table; count = e.count; accepted = e.accepted; earliest = e.earliest; ended = e.ended.items } in
    let placed = c.place-placed in
    let new : LiveView = record { table = placed.new.table; count = e.count + 1; accepted = e.accepted + 1; earliest = e.earliest; ended = placed.new.ended.items } in
    let unshut = c.self.invariant.unshut (ap (λ (v : LiveView). v.table.shut) c.self.view_is ∙ c.requires.unshut) in
    let may = may_submit m c.args.self.now c.args.moment c.args.delay c.args.timing c.self.view_is c.requires.early c.requires.ahead c.requires.limit c.requires.few c.requires.spans.0 c.requires.spans.1 in
    subst (λ (v : LiveView). Calls v new (c.args.moment, call.Submit v.count c.args.timing c.args.delay) (bare (answer.Submit placed.result.task.number (kind_of c.args.timing) placed.result.due))) c.self.view_is
    (accepts_there m c.make_room.new.table placed.new.table placed.new.ended.items c.args.moment c.args.delay placed.result.due placed.result.task.number c.args.timing may c.make_room.ensures.roomier placed.ensures.workers unshut placed.ensures.ended placed.ensures.number placed.ensures.steps)

pub returns-clause-stays : goal.returns-clause-stays
returns-clause-stays g c =
    let e = c.self.inside in
    let m : LiveView = record { table = e.table; count = e.count; accepted = e.accepted; earliest = e.earliest; ended = e.ended.items } in
    let room = c.make_room in
    let placed = c.place-placed in
    let new : LiveView = record { table = placed.new.table; count = e.count + 1; accepted = e.accepted + 1; earliest = e.earliest; ended = placed.new.ended.items } in
    let leaves = leaves_before e.count e.table.slots room.new.table.slots placed.new.table.slots room.ensures.leaves placed.ensures.leaves in
    subst (λ (v : LiveView). StaysQuiet v new (v.count + 1)) c.self.view_is (record {
      stays = stays_noted m new placed.new.notes.free placed.new.notes.entries placed.new.notes.slot_room (vec_capacity placed.new.ended) (placed.ensures.workers ∙ room.ensures.roomier.workers) refl leaves (λ q. absurd (omega (arith, q))) placed.ensures.noted
          (placed.ensures.alive (room.ensures.alive c.self.invariant.alive));
      ended = placed.ensures.ended;
    })
