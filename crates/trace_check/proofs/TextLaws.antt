-- What is found of a text is one, and the texts of histories conform.
use Rattle.std.proofs.Common.{◌≡◌, ℕ, ◌-◌, ◌<◌, List, ◌++◌, refl, sym, ap, ◌∙◌, subst, inl, inr, arith, append-nil}
use Rattle.std.specs.Prelude.{All, reverse, length}
use Rattle.std.proofs.lemmas.Bool.{cases_order}
use Rattle.std.proofs.lemmas.List.{reverse-reverse, length-reverse, get_or-reverse}
use Rattle.queue_code.specs.Calls.{Planned}
use Rattle.executor_model.specs.declared.types.Line.{Line}
use Rattle.executor_model.specs.Flows.{lines_of}
use Rattle.trace_text.specs.Spelling.{FitsLine, lines_text}
use Rattle.trace_check.specs.declared.finding.Finding.TheVariants as f
use Rattle.trace_check.specs.Findings.{Conforms, Breaks}
use Rattle.trace_check.specs.Laws.{IsTraceText, TracesConform, FindingsAreOne, BreaksOrConforms}
use Rattle.trace_check.proofs.Traces.{traces_go}

-- each line of some fits, and so once they are turned
fit_turned : (lines : List Line) → All FitsLine lines → All FitsLine (reverse lines)
fit_turned lines fit = λ k d l.
    let within : k < length lines = omega (arith, l, length-reverse lines) in
    subst FitsLine (sym (get_or-reverse lines k d within)) (fit (length lines - 1 - k) d (omega (arith, within)))

-- a text conforms exactly where it is that of a history
pub traces_conform : TracesConform
traces_conform calls workers text orderly count = (to, back)
  where
    to : Conforms calls workers text → IsTraceText calls workers text
    to c =
        let trace : lines_of calls c.whole.goes.past ≡ reverse c.lines = c.whole.goes.front ∙ (ap (λ o. reverse c.lines ++ o) c.whole.whole ∙ append-nil (reverse c.lines)) in
        record {
          past = c.whole.goes.past;
          means = c.whole.goes.means;
          fit = subst (All FitsLine) (sym trace) (fit_turned c.lines c.fit);
          spelled = c.spelled ∙ ap lines_text (sym trace);
        }

    back : IsTraceText calls workers text → Conforms calls workers text
    back t = record {
      lines = reverse (lines_of calls t.past);
      fit = fit_turned (lines_of calls t.past) t.fit;
      spelled = t.spelled ∙ ap lines_text (sym (reverse-reverse (lines_of calls t.past)));
      whole = traces_go calls workers t.past orderly count t.means;
    }

one_number : (calls : List Planned) (workers : ℕ) (text : List ℕ) (n m : ℕ) → Breaks calls workers text n → Breaks calls workers text m → n ≡ m
one_number calls workers text n m b c =
    elim (cases_order n m) [
      | inl same ↦ same
      | inr other ↦ elim other [ inl less ↦ absurd (b.here (c.before n less)) | inr more ↦ absurd (c.here (b.before m more)) ]
    ]

-- of a text one thing is found at most
pub findings_are_one : FindingsAreOne
findings_are_one calls workers text f.Conforms f.Conforms p q = refl
findings_are_one calls workers text f.Conforms (f.Breaks n) p q = absurd (q.differs p)
findings_are_one calls workers text (f.Breaks n) f.Conforms p q = absurd (p.differs q)
findings_are_one calls workers text (f.Breaks n) (f.Breaks m) p q = ap (λ k. f.Breaks k) (one_number calls workers text n m p q)

-- a text that breaks does not conform
pub breaks_or_conforms : BreaksOrConforms
breaks_or_conforms calls workers text n b c = b.differs c
