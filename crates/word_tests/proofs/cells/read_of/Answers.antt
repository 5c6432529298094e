use Rattle.std.proofs.Common.{sym, ap, ◌∙◌}
use Rattle.result_cell.proofs.Notes.{length_notes, set_note, known_here}
use Rattle.word_tests.proofs.cells.read_of.Goals as goal

pub returns-clause-notes : goal.returns-clause-notes
returns-clause-notes c =
    set_note _ _ c.args.task c.read.new.note c.index_mut.result.now c.requires.notes
    (c.read.ensures.cell ∙ ap (λ n. n.cell) c.index_mut.ensures.value)

pub returns-clause-known : goal.returns-clause-known
returns-clause-known c =
    let low = length_notes c.args.notes.now.items c.args.cells.now c.requires.notes in
    c.read.ensures.known ∙ sym (known_here c.args.notes.now.items c.args.task c.read.new.note (rw low c.requires.below))
