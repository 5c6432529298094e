-- What a check of a text finds. Lines stand the newest first. All of it is this project's rule.
use Rattle.std.specs.Prelude.{◌≡◌, ℕ, ◌<◌, List, ◌++◌, All, length, reverse}
use Rattle.queue_code.specs.Calls.{Planned}
use Rattle.executor_model.specs.declared.types.Line.{Line}
use Rattle.trace_text.specs.Spelling.{FitsLine, lines_text}
use Rattle.trace_check.specs.Going.{Goes, AreWhole}
use Rattle.trace_check.specs.declared.finding.Finding.{Finding}
use Rattle.trace_check.specs.declared.finding.Finding.TheVariants as f

-- a text begins with this many lines that go
pub record BeginsWith (calls : List Planned) (workers : ℕ) (text : List ℕ) (n : ℕ) : Type 0 where
  pub lines : List Line
  pub count : length lines ≡ n
  pub fit : All FitsLine lines
  pub rest : List ℕ
  pub spelled : text ≡ lines_text (reverse lines) ++ rest
  pub goes : Goes calls workers lines

-- a text is that of lines that go and are whole
pub record Conforms (calls : List Planned) (workers : ℕ) (text : List ℕ) : Type 0 where
  pub lines : List Line
  pub fit : All FitsLine lines
  pub spelled : text ≡ lines_text (reverse lines)
  pub whole : AreWhole calls workers lines

-- a text does not conform, and n is the least number such that it does not begin with n lines that go: line n is not
-- spelled, or lines 1 to n do not go, or all lines go and the text ends before line n, which ends a task
pub record Breaks (calls : List Planned) (workers : ℕ) (text : List ℕ) (n : ℕ) : Type 0 where
  pub differs : Conforms calls workers text → ⊥
  pub before : (m : ℕ) → m < n → BeginsWith calls workers text m
  pub here : BeginsWith calls workers text n → ⊥

-- what is found of a text
abbrev pub Finds : List Planned → ℕ → List ℕ → Finding → Type 0
Finds calls workers text f.Conforms = Conforms calls workers text
Finds calls workers text (f.Breaks n) = Breaks calls workers text n
