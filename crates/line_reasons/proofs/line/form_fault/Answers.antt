use Rattle.std.proofs.Common.{◌∙◌, [], ◌∷◌, length, eqb-true, sym, inl, inr, refl}
use Rattle.std.proofs.lemmas.Bool.Decides.{Decides-eqb}
use Rattle.std.proofs.lemmas.Slice.Eq.{slice_eq-Decides}
use Rattle.line_reasons.proofs.NumberFaults.{denied}
use Rattle.line_reasons.proofs.LineFaults.{contains_is, end_is, nothing, not_empty}
use Rattle.line_reasons.proofs.line.form_fault.Goals.{then-is_empty-via-then-is_empty, then-is_empty-via-else-is_empty+then-eq}
use Rattle.line_reasons.proofs.line.form_fault.Goals as goal

pub returns-then-is_empty : goal.returns-then-is_empty
returns-then-is_empty c =
    elim c.then-is_empty.branch [
      | then-is_empty-via-then-is_empty w ↦ inl (inl (nothing c.args.line.now (eqb-true (length c.args.line.now) 0 (sym c.is_empty.ensures ∙ w.if-is_empty.true))), refl)
      | then-is_empty-via-else-is_empty+then-eq w ↦ inl (inr ((slice_eq-Decides Decides-eqb c.args.line.now w.as_slice.result.now w.eq.result w.eq.ensures).0 w.if-eq.true ∙ w.as_slice.ensures), refl)
    ]

pub returns : goal.returns
returns c =
    let line = c.args.line.now in
    let some = not_empty line c.is_empty.result c.eq.result c.if-is_empty.false c.is_empty.ensures c.if-eq.false (λ is. (slice_eq-Decides Decides-eqb line c.as_slice.result.now c.eq.result c.eq.ensures).1 (is ∙ sym c.as_slice.ensures)) in
    let no_return = denied c.contains.result _ c.if-contains.false (contains_is line 13 c.contains.result c.contains.ensures.cases).1 in
    let ended = (end_is line (10 ∷ []) c.ends_with.result c.ends_with.ensures.value).0 c.if-not-ends_with.false in
    inr (some, inr (no_return, inr (λ not. not ended, c.spaces_fault.ensures)))
