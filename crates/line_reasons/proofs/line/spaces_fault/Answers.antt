use Rattle.std.proofs.Common.{[], ◌∷◌, inl, inr, refl}
use Rattle.line_reasons.proofs.NumberFaults.{denied}
use Rattle.line_reasons.proofs.LineFaults.{contains_is, begins_is, end_is, found_is}
use Rattle.line_reasons.proofs.line.spaces_fault.Goals as goal

pub returns-then-ends_with : goal.returns-then-ends_with
returns-then-ends_with c =
    let no_tab = denied c.contains.result _ c.if-contains.false (contains_is c.args.line.now 9 c.contains.result c.contains.ensures.cases).1 in
    let no_front = denied c.starts_with.result _ c.if-starts_with.false (begins_is c.args.line.now (32 ∷ []) c.starts_with.result c.starts_with.ensures.value).1 in
    let ends = end_is c.args.line.now (32 ∷ 10 ∷ []) c.ends_with.result c.ends_with.ensures.value in
    inr (no_tab, inr (no_front, inl (ends.0 c.if-ends_with.true, refl)))

pub returns-then-is_some : goal.returns-then-is_some
returns-then-is_some c =
    let no_tab = denied c.contains.result _ c.if-contains.false (contains_is c.args.line.now 9 c.contains.result c.contains.ensures.cases).1 in
    let no_front = denied c.starts_with.result _ c.if-starts_with.false (begins_is c.args.line.now (32 ∷ []) c.starts_with.result c.starts_with.ensures.value).1 in
    let no_end = denied c.ends_with.result _ c.if-ends_with.false (end_is c.args.line.now (32 ∷ 10 ∷ []) c.ends_with.result c.ends_with.ensures.value).1 in
    let two = found_is c.args.line.now (32 ∷ 32 ∷ []) c.find.result c.is_some.result c.find.ensures c.is_some.ensures in
    inr (no_tab, inr (no_front, inr (no_end, inl (two.0 c.if-is_some.true, refl))))

pub returns : goal.returns
returns c =
    let no_tab = denied c.contains.result _ c.if-contains.false (contains_is c.args.line.now 9 c.contains.result c.contains.ensures.cases).1 in
    let no_front = denied c.starts_with.result _ c.if-starts_with.false (begins_is c.args.line.now (32 ∷ []) c.starts_with.result c.starts_with.ensures.value).1 in
    let no_end = denied c.ends_with.result _ c.if-ends_with.false (end_is c.args.line.now (32 ∷ 10 ∷ []) c.ends_with.result c.ends_with.ensures.value).1 in
    let no_two = denied c.is_some.result _ c.if-is_some.false (found_is c.args.line.now (32 ∷ 32 ∷ []) c.find.result c.is_some.result c.find.ensures c.is_some.ensures).1 in
    inr (no_tab, inr (no_front, inr (no_end, inr (no_two, refl))))
