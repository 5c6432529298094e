-- One task more is noted, whose number is above those before it.
use Rattle.std.proofs.Common.{◌++◌, ◌∷◌, [], length, take, refl, sym, ap, subst, ◌∙◌, arith}
use Rattle.std.proofs.lemmas.List.{take_all}
use Rattle.std.proofs.lemmas.Option.{slice_get_read}
use Rattle.live_core.specs.own.Restoring.{refs_of}
use Rattle.live_core.specs.own.Slots.{IsBelow, NotesView}
use Rattle.live_core.proofs.Restored.{refs_below, refs_next, refs_size}
use Rattle.live_core.proofs.notes.Notes.add_all.Goals as goal

pub loop-image-init : goal.loop-image-init
loop-image-init g c = (λ i. record c.args.self.now { entries = c.requires.none i })

pub add-requires-clause-above : goal.add-requires-clause-above
add-requires-clause-above g c =
    let rs = c.args.tasks.now in
    let i = c.loop-image.image-index in
    let r = c.image-item.result in
    subst (λ (v : NotesView). IsBelow v.entries (length v.entries) r.seat.number) (sym c.loop-image.invariant)
    (refs_below rs i (length (refs_of (take i rs))) r c.requires.ascending (slice_get_read rs (length rs) i r refl c.loop-image-test.true c.image-item.is))

pub add-requires-clause-room : goal.add-requires-clause-room
add-requires-clause-room g c =
    omega (arith, refs_size c.args.tasks.now c.loop-image.image-index, c.loop-image-test.true, c.requires.room, ap (λ (v : NotesView). length v.entries) c.loop-image.invariant, ap (λ (v : NotesView). v.index_room) c.loop-image.invariant)

pub loop-image-preserved : goal.loop-image-preserved
loop-image-preserved g c =
    let rs = c.args.tasks.now in
    let i = c.loop-image.image-index in
    let r = c.image-item.result in
    let next = refs_next rs i r (slice_get_read rs (length rs) i r refl c.loop-image-test.true c.image-item.is) in
    c.add.ensures
    ∙ (ap (λ (v : NotesView). record v { entries = v.entries ++ record { number = r.seat.number; slot = r.slot } ∷ [] }) c.loop-image.invariant
    ∙ (λ j. record c.args.self.now { entries = sym next j }))

pub returns : goal.returns
returns g c =
    let rs = c.args.tasks.now in
    let all = take_all c.loop-image.image-index rs (omega (arith, c.loop-image-test.false)) in
    c.loop-image.invariant ∙ (λ j. record c.args.self.now { entries = refs_of (all j) })
