use Rattle.std.proofs.Common.{◌≡◌, ◌<◌, length, sym, ap, ◌∙◌, subst}
use Rattle.std.specs.Prelude.{slice_set}
use Rattle.result_cell.specs.Cells.{StaysKnown, known_at}
use Rattle.result_cell.proofs.Notes.{length_notes, set_note, known_here, known_elsewhere}
use Rattle.worker_pool.proofs.NoteLists.{known_read}
use Rattle.worker_pool.proofs.handle.read_of.Goals as goal

pub returns-clause-notes : goal.returns-clause-notes
returns-clause-notes g c =
    set_note _ _ c.args.task c.read.new.note c.index_mut.result.now c.requires.notes
    (c.read.ensures.cell ∙ ap (λ n. n.cell) c.index_mut.ensures.value)

pub returns-clause-known : goal.returns-clause-known
returns-clause-known g c =
    let low = length_notes c.args.notes.now.items c.args.cells.now c.requires.notes in
    c.read.ensures.known ∙ sym (known_here c.args.notes.now.items c.args.task c.read.new.note (rw low c.requires.below))

pub returns-clause-others : goal.returns-clause-others
returns-clause-others g c = λ k other. known_elsewhere c.args.notes.now.items c.args.task k c.read.new.note other

pub returns-clause-keeps : goal.returns-clause-keeps
returns-clause-keeps g c =
    let old = c.args.notes.now.items in
    let k = c.args.task in
    let low = length_notes old c.args.cells.now c.requires.notes in
    let inside : k < length old = rw low c.requires.below in
    let before : known_at old k ≡ c.index_mut.result.now.known = known_read old k c.index_mut.result.now inside ∙ ap (λ n. n.known) (sym c.index_mut.ensures.value) in
    let then = sym (known_here old k c.read.new.note inside) in
    subst (λ x. StaysKnown x (known_at (slice_set old k c.read.new.note) k)) (sym before) (subst (λ y. StaysKnown c.index_mut.result.now.known y) then c.read.ensures.keeps)
