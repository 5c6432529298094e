-- The lines that a check keeps as it reads.
use Rattle.std.proofs.Common.{◌≡◌, ℕ, ◌+◌, List, [], ◌∷◌, ◌++◌, length, refl, sym, ap, ◌∙◌, subst, arith, append_assoc, append-nil, length-append}
use Rattle.std.specs.Prelude.{All}
use Rattle.std.proofs.lemmas.Grind.{flat_map-append}
use Rattle.std.proofs.lemmas.List.Elements.{All-append, All-from_recursion}
use Rattle.executor_model.specs.declared.types.Line.{Line}
use Rattle.trace_text.specs.Spelling.{FitsLine, line_text, lines_text}
use Rattle.trace_check.specs.Lines.{AreSpelled, AreBefore}

-- these lines, so many, are all that stand before the rest of a text
pub record AreKept (text rest : List ℕ) (n : ℕ) (lines : List Line) : Type 0 where
  pub count : n ≡ length lines
  pub fit : All FitsLine lines
  pub spelled : text ≡ lines_text lines ++ rest

-- with one line more
pub keeps_on : (text rest behind : List ℕ) (n : ℕ) (lines : List Line) (line : Line) → AreKept text rest n lines → FitsLine line → rest ≡ line_text line ++ behind → AreKept text behind (n + 1) (lines ++ line ∷ [])
keeps_on text rest behind n lines line kept fit here = record {
  count = omega (arith, kept.count, length-append lines (line ∷ []));
  fit = All-append FitsLine lines (line ∷ []) kept.fit (All-from_recursion FitsLine (line ∷ []) (fit, tt));
  spelled =
      kept.spelled
      ∙ (ap (λ r. lines_text lines ++ r) here
      ∙ (sym (append_assoc (lines_text lines) (line_text line) behind)
      ∙ ap (λ t. t ++ behind) (ap (λ t. lines_text lines ++ t) (sym (append-nil (line_text line))) ∙ sym (flat_map-append line_text lines (line ∷ [])))));
}

-- they stand before the next line
pub kept_before : (text rest : List ℕ) (n : ℕ) (lines : List Line) → AreKept text rest n lines → AreBefore text (n + 1) lines
kept_before text rest n lines kept = record { count = ap (λ m. m + 1) kept.count; fit = kept.fit; rest = rest; spelled = kept.spelled }

-- where nothing is left they are the whole
pub kept_whole : (text rest : List ℕ) (n : ℕ) (lines : List Line) → AreKept text rest n lines → rest ≡ [] → AreSpelled text lines
kept_whole text rest n lines kept none = record { fit = kept.fit; spelled = kept.spelled ∙ (ap (λ r. lines_text lines ++ r) none ∙ append-nil (lines_text lines)) }

-- no lines stand before the whole of a text
pub keeps_none : (text : List ℕ) (lines : List Line) → lines ≡ [] → AreKept text text 0 lines
keeps_none text lines none = subst (AreKept text text 0) (sym none) (record { count = refl; fit = All-from_recursion FitsLine [] tt; spelled = refl })
