-- One slot more is noted.
use Rattle.std.proofs.Common.{◌++◌, ◌∷◌, [], length, get_or, sym, ap, ◌∙◌, arith, length-take}
use Rattle.std.proofs.lemmas.List.{take_all, take_more}
use Rattle.live_core.specs.own.Slots.{NotesView}
use Rattle.live_core.proofs.notes.Notes.add_all_empty.Goals as goal

pub loop-slot-init : goal.loop-slot-init
loop-slot-init g c = (λ i. record c.args.self.now { free = c.requires.none i })

pub release-requires : goal.release-requires
release-requires g c =
    omega (arith, length-take c.loop-slot.slot-index c.args.slots.now, c.loop-slot-test.true, c.requires.room, ap (λ (v : NotesView). length v.free) c.loop-slot.invariant, ap (λ (v : NotesView). v.slot_room) c.loop-slot.invariant)

pub loop-slot-preserved : goal.loop-slot-preserved
loop-slot-preserved g c =
    let slots = c.args.slots.now in
    let i = c.loop-slot.slot-index in
    let next = take_more slots i 0 c.loop-slot-test.true in
    c.release.ensures
    ∙ (ap (λ (v : NotesView). record v { free = v.free ++ get_or slots i 0 ∷ [] }) c.loop-slot.invariant
    ∙ (λ j. record c.args.self.now { free = sym next j }))

pub returns : goal.returns
returns g c =
    let all = take_all c.loop-slot.slot-index c.args.slots.now (omega (arith, c.loop-slot-test.false)) in
    c.loop-slot.invariant ∙ (λ j. record c.args.self.now { free = all j })
