-- Lines that a text spells.
use Rattle.std.proofs.Common.{◌≡◌, ℕ, ◌≤◌, List, [], ◌∷◌, length, refl, sym, ap, ◌∙◌, arith, length-append}
use Rattle.std.specs.Prelude.{codes}
use Rattle.std.specs.List.{AllByRecursion}
use Rattle.std.proofs.lemmas.List.Elements.{recursion_from_All}
use Rattle.executor_model.specs.declared.types.Line.{Line}
use Rattle.trace_text.specs.Spelling.{FitsLine, line_text, lines_text}
use Rattle.trace_text.proofs.LineTexts.{first_line}
use Rattle.trace_text.proofs.LineEnds.{line_ended}
use Rattle.executor_model.specs.Flows.{lines_of}
use Rattle.trace_check.specs.Lines.{AreSpelled}
use Rattle.trace_check.proofs.TextLaws.{traces_conform}
use Rattle.trace_draw.specs.Laws.{ConformingTextsAreTraces}

-- a line has a byte at least
some_bytes : (line : Line) → FitsLine line → 1 ≤ length (line_text line)
some_bytes line fit = let e = line_ended line fit in omega (arith, ap length e.2, length-append e.0 (codes "\n"))

-- a text spells one list of lines at most
same_lines : (one other : List Line) → AllByRecursion FitsLine one → AllByRecursion FitsLine other → lines_text one ≡ lines_text other → one ≡ other
same_lines [] [] p q same = refl
same_lines [] (line ∷ other) p q same = absurd (omega (arith, some_bytes line q.0, ap length same, length-append (line_text line) (lines_text other)))
same_lines (line ∷ one) [] p q same = absurd (omega (arith, some_bytes line p.0, ap length same, length-append (line_text line) (lines_text one)))
same_lines (line ∷ one) (next ∷ other) p q same =
    let both = first_line line next (lines_text one) (lines_text other) p.0 q.0 same in
    (λ i. both.0 i ∷ same_lines one other p.1 q.1 both.1 i)

pub one_spelling : (text : List ℕ) (one other : List Line) → AreSpelled text one → AreSpelled text other → one ≡ other
one_spelling text one other is too = same_lines one other (recursion_from_All FitsLine one is.fit) (recursion_from_All FitsLine other too.fit) (sym is.spelled ∙ too.spelled)

-- the lines of a text that conforms are those of a history
pub conforming_texts_are_traces : ConformingTextsAreTraces
conforming_texts_are_traces calls workers text lines orderly few conforms are =
    let trace = (traces_conform calls workers text orderly few).0 conforms in
    record { past = trace.past; means = trace.means; are = one_spelling text lines (lines_of calls trace.past) are (record { fit = trace.fit; spelled = trace.spelled }) }
