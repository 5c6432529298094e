-- Copying: what of the text of some lines stands in a caller's buffer (this project's rule).
use Rattle.std.specs.Prelude.{◌≡◌, ℕ, ◌+◌, ◌<◌, ◌≤◌, ◌⊎◌, List, length, take}
use Rattle.executor_model.specs.declared.types.Line.{Line}
use Rattle.trace_text.specs.Spelling.{lines_text}
use Rattle.trace_text.specs.Writing.{line_room}
use Rattle.line_copy.specs.declared.copied.Copied.{Copied}

-- so far the buffer has the text of the first lines, as many as were copied, and of no part of a line. It is `after` now, and was
-- `before` when nothing was copied
pub record HoldsFirst (all : List Line) (before after : List ℕ) (copied : Copied) : Type 0 where
  pub lines : copied.lines ≤ length all
  pub text : take copied.bytes after ≡ lines_text (take copied.lines all)
  pub bytes : copied.bytes ≤ length before
  pub size : length after ≡ length before
  -- each line began where there was room for any line
  pub room : (n : ℕ) → n < copied.lines → length (lines_text (take n all)) + line_room ≤ length before

-- of the text of the lines this much was copied: that of the first ones, as long as there was room for any line
pub record IsCopied (all : List Line) (before after : List ℕ) (copied : Copied) : Type 0 where
  pub first : HoldsFirst all before after copied
  -- no line is left, or there is no room where one more would begin
  pub most : (copied.lines ≡ length all) ⊎ (length before < copied.bytes + line_room)
