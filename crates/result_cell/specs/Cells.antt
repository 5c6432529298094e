-- What the contracts of result cells, and of callers with many of them, speak of: what a note knows of the verdict of
-- its cell, `None` for nothing. All of it is this project's rule.
use Rattle.std.specs.Prelude.{◌≡◌, ℕ, List, Option, Some, None, IfSome, map, slice_index_or}
use Rattle.once_cell.specs.declared.race.note.Note.{Note}
use Rattle.result_cell.specs.declared.verdict.Verdict.{Verdict}

-- What was known before is known after: a note never forgets a verdict, nor takes another for it.
abbrev pub StaysKnown : Option Verdict → Option Verdict → Type 0
StaysKnown before after = IfSome before (λ v. after ≡ Some v)

-- Two notes that both know a verdict know the same one.
abbrev pub KnowTheSame : Option Verdict → Option Verdict → Type 0
KnowTheSame one other = IfSome one (λ v. IfSome other (λ w. v ≡ w))

-- For a caller with a cell and a note for each task: the note at each place is of the cell at that place. A cell
-- stands as its name.
abbrev pub AreNotesOf : List (Note Verdict) → List ℕ → Type 0
AreNotesOf notes cells = map (λ n. n.cell) notes ≡ cells

-- What the note at a place knows, and nothing past the last note.
abbrev pub known_at : List (Note Verdict) → ℕ → Option Verdict
known_at notes k = slice_index_or (map (λ n. n.known) notes) k None
