-- The lines of a text, as a check of it reads them. Lines stand in the order of the trace, the oldest first. All of it is this
-- project's rule.
use Rattle.std.specs.Prelude.{◌≡◌, ℕ, ◌+◌, List, ◌++◌, All, length}
use Rattle.executor_model.specs.declared.types.Line.{Line}
use Rattle.trace_text.specs.Spelling.{FitsLine, lines_text}
use Rattle.trace_check.specs.declared.finding.Finding.{Finding}
use Rattle.trace_check.specs.declared.finding.Finding.TheVariants as f

-- a text is that of these lines, which fit
pub record AreSpelled (text : List ℕ) (lines : List Line) : Type 0 where
  pub fit : All FitsLine lines
  pub spelled : text ≡ lines_text lines

-- a text begins with these lines, which fit, and they are all that stand before its line n
pub record AreBefore (text : List ℕ) (n : ℕ) (lines : List Line) : Type 0 where
  pub count : n ≡ length lines + 1
  pub fit : All FitsLine lines
  pub rest : List ℕ
  pub spelled : text ≡ lines_text lines ++ rest

-- the lines that were read of a text of which this is found: all of them, and of one that breaks those before the line at which
-- it does
abbrev pub AreRead : List ℕ → Finding → List Line → Type 0
AreRead text f.Conforms lines = AreSpelled text lines
AreRead text (f.Breaks n) lines = AreBefore text n lines
