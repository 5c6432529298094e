use Rattle.std.proofs.Common.{◌≡◌, ℕ, ◌≤◌, None, length, take}
use Rattle.std.specs.Prelude.{vec_len, vec_capacity}
use Rattle.result_cell.specs.Cells.{AreNotesOf, known_at}
use Rattle.worker_pool.proofs.handle.notes_of.Given as goal

abbrev pub invariant-loop-cell : goal.invariant-loop-cell
invariant-loop-cell g l = AreNotesOf l.notes.items (take l.cell-index l.fn.cells) × (vec_len l.notes ≡ l.cell-index) × (length l.fn.cells ≤ vec_capacity l.notes) × ((k : ℕ) → known_at l.notes.items k ≡ None)
