-- What contracts see of what threads share, and of a handle. All of it is this project's rule.
use Rattle.std.specs.Prelude.{ℕ, List, Option}
use Rattle.atomic_table.specs.Seated.{TableId}
use Rattle.once_cell.specs.declared.race.note.Note.{Note}
use Rattle.task_word.specs.declared.views.HandleSeatView.{HandleSeatView}
use Rattle.result_cell.specs.Cells.{known_at}
use Rattle.result_cell.specs.declared.verdict.Verdict.{Verdict}

-- which words and cells are shared, and of how many tasks
pub record SharedView : Type 0 where
  pub table : TableId
  pub tasks : ℕ
  -- the name of each task's cell
  pub cells : List ℕ

-- what a handle knows: of the words, and of each task's cell
pub record HandleView : Type 0 where
  pub seat : HandleSeatView
  pub notes : List (Note Verdict)

-- the verdict that a handle knows of task k, and nothing past the last task
abbrev pub known_to : HandleView → ℕ → Option Verdict
known_to h k = known_at h.notes k
