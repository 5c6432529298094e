use Rattle.std.proofs.Common.{take}
use Rattle.result_cell.specs.Cells.{AreNotesOf}
use Rattle.word_tests.proofs.cells.notes_of.Given as goal

abbrev pub invariant-loop-cell : goal.invariant-loop-cell
invariant-loop-cell l = AreNotesOf l.notes.items (take l.cell-index l.fn.cells)
