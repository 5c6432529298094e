-- The marks of lines that a window shows.
use Rattle.std.proofs.Common.{zero, suc, ◌≡◌, ℕ, Bool, true, false, ◌&&◌, cond, List, [], ◌∷◌, ◌++◌, length, refl, sym, ap, ◌∙◌}
use Rattle.std.specs.Prelude.{Some, slice_get}
use Rattle.std.specs.List.{filter}
use Rattle.std.proofs.lemmas.Bool.{and_parts}
use Rattle.std.proofs.lemmas.Option.{none-some, same_Some}
use Rattle.executor_model.specs.declared.types.Line.{Line}
use Rattle.trace_draw.specs.declared.window.Window.{Window}
use Rattle.trace_draw.specs.Marks.{is_mark, marks_of, shows_line}
use Rattle.trace_draw.specs.Pictures.{marks_within}
use Rattle.trace_draw.specs.Laws.{LinesHaveMarks, MarksAreLines}

-- ---- lines that pass a test

-- a line passes, and so many before it do
record PassesAt (passes : Line → Bool) (lines : List Line) (i : ℕ) (line : Line) : Type 0 where
  before : List Line
  later : List Line
  parts : lines ≡ before ++ line ∷ later
  passing : passes line ≡ true
  index : i ≡ length (filter passes before)

-- it is kept, there
kept : (passes : Line → Bool) (before later : List Line) (line : Line) → passes line ≡ true
    → slice_get (filter passes (before ++ line ∷ later)) (length (filter passes before)) ≡ Some line
kept passes [] later line pass = ap (λ b. slice_get (cond b (line ∷ filter passes later) (filter passes later)) 0) pass
kept passes (first ∷ before) later line pass = by (passes first) (kept passes before later line pass)
  where
    lines : List Line
    lines = before ++ line ∷ later

    by : (b : Bool) → slice_get (filter passes lines) (length (filter passes before)) ≡ Some line
        → slice_get (cond b (first ∷ filter passes lines) (filter passes lines)) (length (cond b (first ∷ filter passes before) (filter passes before))) ≡ Some line
    by true is = is
    by false is = is

-- each that is kept is one
passed : (passes : Line → Bool) (lines : List Line) (i : ℕ) (line : Line) → slice_get (filter passes lines) i ≡ Some line → PassesAt passes lines i line
passed passes [] i line is = absurd (none-some line is)
passed passes (first ∷ more) i line is = pick (λ j at. passed passes more j line at) (passes first) refl i is
  where
    behind : (b : Bool) → passes first ≡ b → (j : ℕ) → (rest : PassesAt passes more j line) → PassesAt passes (first ∷ more) (cond b (suc j) j) line
    behind b pass j rest =
        record {
          before = first ∷ rest.before;
          later = rest.later;
          parts = ap (λ lines. first ∷ lines) rest.parts;
          passing = rest.passing;
          index = counted b ∙ sym (ap (λ t. length (cond t (first ∷ filter passes rest.before) (filter passes rest.before))) pass);
        }
      where
        counted : (t : Bool) → cond t (suc j) j ≡ length (cond t (first ∷ filter passes rest.before) (filter passes rest.before))
        counted true = ap suc rest.index
        counted false = rest.index

    pick : ((j : ℕ) → slice_get (filter passes more) j ≡ Some line → PassesAt passes more j line) → (b : Bool) → passes first ≡ b → (j : ℕ) →
        slice_get (cond b (first ∷ filter passes more) (filter passes more)) j ≡ Some line → PassesAt passes (first ∷ more) j line
    pick rest true pass zero at =
        let same = same_Some first line at in
        record { before = []; later = more; parts = ap (λ l. l ∷ more) same; passing = sym (ap passes same) ∙ pass; index = refl }
    pick rest true pass (suc j) at = behind true pass j (rest j at)
    pick rest false pass j at = behind false pass j (rest j at)

-- ---- marks that a window shows

-- a line is a mark that a window shows
abbrev is_shown : Window → Line → Bool
is_shown window line = is_mark line.message && shows_line window line

within : (window : Window) (lines : List Line) → marks_within window lines ≡ filter (is_shown window) lines
within window [] = refl
within window (line ∷ later) = by (is_mark line.message) (within window later)
  where
    by : (b : Bool) → marks_within window later ≡ filter (is_shown window) later
        → filter (shows_line window) (cond b (line ∷ marks_of later) (marks_of later)) ≡ cond (b && shows_line window line) (line ∷ filter (is_shown window) later) (filter (is_shown window) later)
    by true rest = ap (λ lines. cond (shows_line window line) (line ∷ lines) lines) rest
    by false rest = rest

-- ---- the laws

pub lines_have_marks : LinesHaveMarks
lines_have_marks lines workers window i line at =
    let here = kept (is_shown window) at.before at.later line (ap (λ b. b && shows_line window line) at.mark ∙ at.shown) in
    let index = at.index ∙ ap (λ marks. length marks) (within window at.before) in
    ap (λ ls. slice_get (marks_within window ls) i) at.parts
    ∙ (ap (λ marks. slice_get marks i) (within window (at.before ++ line ∷ at.later))
    ∙ (ap (λ k. slice_get (filter (is_shown window) (at.before ++ line ∷ at.later)) k) index ∙ here))

pub marks_are_lines : MarksAreLines
marks_are_lines lines workers window i line is =
    let at = passed (is_shown window) lines i line (ap (λ marks. slice_get marks i) (sym (within window lines)) ∙ is) in
    let both = and_parts (is_mark line.message) (shows_line window line) at.passing in
    record {
      before = at.before;
      later = at.later;
      parts = at.parts;
      mark = both.0;
      shown = both.1;
      index = at.index ∙ ap (λ marks. length marks) (sym (within window at.before));
    }
