use Rattle.std.proofs.Common.{◌≡◌, ◌∙◌, ◌<◌, List, ℕ, length, drop, None, Some, sym, ap, arith, subst, eqb-true, inl, inr}
use Rattle.std.specs.Prelude.{Contains}
use Rattle.trace_text.specs.Reading.{EndsNumber}
use Rattle.line_reasons.specs.Numbers.{units}
use Rattle.line_reasons.specs.declared.number.NumberFault.TheVariants as fault
use Rattle.line_reasons.proofs.LineTexts.{some_left}
use Rattle.line_reasons.proofs.NumberFaults.{denied, no_sign, none_in_front, unit_behind, other_behind, digits_alone, number_of_digits, alone}
use Rattle.line_reasons.proofs.number.number_fault.Goals.{then-is_before_digit-via-then-is_before_digit, then-is_before_digit-via-else-is_before_digit+then-is_before_digit-2}
use Rattle.line_reasons.proofs.number.number_fault.Goals as goal

pub returns-then-is_before_digit-clause-fault : goal.returns-then-is_before_digit-clause-fault
returns-then-is_before_digit-clause-fault c =
    elim c.then-is_before_digit.branch [
      | then-is_before_digit-via-then-is_before_digit w ↦ inl (c.is_before_digit.ensures.0 w.if-is_before_digit.true)
      | then-is_before_digit-via-else-is_before_digit+then-is_before_digit-2 w ↦ inr (w.is_before_digit-else-is_before_digit.ensures.0 w.if-is_before_digit-2.true)
    ]

pub returns-then-is_before_digit-3-clause-fault : goal.returns-then-is_before_digit-3-clause-fault
returns-then-is_before_digit-3-clause-fault c = c.is_before_digit-2.ensures.0 c.if-is_before_digit-3.true

pub returns-then-is_empty-clause-fault : goal.returns-then-is_empty-clause-fault
returns-then-is_empty-clause-fault c =
    let word = c.args.word.now in
    let none : c.count_digits.result ≡ 0 = omega (arith, c.split_at.ensures.front_len, eqb-true (length c.split_at.result.0.now) 0 (sym c.is_empty.ensures ∙ c.if-is_empty.true)) in
    none_in_front c.args.most word (subst (λ (k : ℕ). EndsNumber (drop k word)) none c.count_digits.ensures.ends) (no_sign c.args.word.now c.is_before_digit.result c.is_before_digit-else-is_before_digit.result c.if-is_before_digit.false c.is_before_digit.ensures.1 c.if-is_before_digit-2.false c.is_before_digit-else-is_before_digit.ensures.1) (denied c.is_before_digit-2.result _ c.if-is_before_digit-3.false c.is_before_digit-2.ensures.1)

pub returns-then-is_unit-clause-fault : goal.returns-then-is_unit-clause-fault
returns-then-is_unit-clause-fault c =
    let is = subst (Contains units) c.split_at.ensures.back (c.is_unit.ensures.0 c.if-is_unit.true) in
    unit_behind c.args.most c.args.word.now c.count_digits.result (omega (arith, some_left c.split_at.result.0.now (sym c.is_empty.ensures ∙ c.if-is_empty.false), c.split_at.ensures.front_len)) c.count_digits.ensures.within c.count_digits.ensures.digits is (denied c.is_before_digit-2.result _ c.if-is_before_digit-3.false c.is_before_digit-2.ensures.1)

pub returns-then-not-is_empty-clause-fault : goal.returns-then-not-is_empty-clause-fault
returns-then-not-is_empty-clause-fault c =
    let some = some_left c.split_at.result.1.now (sym c.is_empty-2.ensures ∙ c.if-not-is_empty.true) in
    let other = denied c.is_unit.result (Contains units c.split_at.result.1.now) c.if-is_unit.false c.is_unit.ensures.1 in
    other_behind c.args.most c.args.word.now c.count_digits.result c.count_digits.ensures.digits c.count_digits.ensures.ends (subst (λ (l : List ℕ). 0 < length l) c.split_at.ensures.back some)
    (subst (λ (l : List ℕ). ¬ (Contains units l)) c.split_at.ensures.back other) (no_sign c.args.word.now c.is_before_digit.result c.is_before_digit-else-is_before_digit.result c.if-is_before_digit.false c.is_before_digit.ensures.1 c.if-is_before_digit-2.false c.is_before_digit-else-is_before_digit.ensures.1) (denied c.is_before_digit-2.result _ c.if-is_before_digit-3.false c.is_before_digit-2.ensures.1)

pub returns-in-Some-clause-fault : goal.returns-in-Some-clause-fault
returns-in-Some-clause-fault c =
    let numeral = digits_alone c.args.word.now c.count_digits.result (omega (arith, some_left c.split_at.result.0.now (sym c.is_empty.ensures ∙ c.if-is_empty.false), c.split_at.ensures.front_len)) c.count_digits.ensures.within c.count_digits.ensures.digits (omega (arith, ap length c.split_at.ensures.back, eqb-true (length c.split_at.result.1.now) 0 (sym c.is_empty-2.ensures ∙ c.if-not-is_empty.false))) in
    number_of_digits c.args.most c.args.word.now (omega arith) numeral (denied c.is_before_digit-2.result _ c.if-is_before_digit-3.false c.is_before_digit-2.ensures.1) (omega (arith, c.if-value-most.true, c.in-Some.ensures))

pub returns-in_default-clause-fault : goal.returns-in_default-clause-fault
returns-in_default-clause-fault c =
    let numeral = digits_alone c.args.word.now c.count_digits.result (omega (arith, some_left c.split_at.result.0.now (sym c.is_empty.ensures ∙ c.if-is_empty.false), c.split_at.ensures.front_len)) c.count_digits.ensures.within c.count_digits.ensures.digits (omega (arith, ap length c.split_at.ensures.back, eqb-true (length c.split_at.result.1.now) 0 (sym c.is_empty-2.ensures ∙ c.if-not-is_empty.false))) in
    (numeral, omega (arith, c.if-value-most.false, c.in-Some.ensures), (denied c.is_before_digit-2.result _ c.if-is_before_digit-3.false c.is_before_digit-2.ensures.1))

pub returns-in_default-2-clause-fault : goal.returns-in_default-2-clause-fault
returns-in_default-2-clause-fault c =
    let numeral = digits_alone c.args.word.now c.count_digits.result (omega (arith, some_left c.split_at.result.0.now (sym c.is_empty.ensures ∙ c.if-is_empty.false), c.split_at.ensures.front_len)) c.count_digits.ensures.within c.count_digits.ensures.digits (omega (arith, ap length c.split_at.ensures.back, eqb-true (length c.split_at.result.1.now) 0 (sym c.is_empty-2.ensures ∙ c.if-not-is_empty.false))) in
    (numeral, omega (arith, c.in_default.ensures), (denied c.is_before_digit-2.result _ c.if-is_before_digit-3.false c.is_before_digit-2.ensures.1))

pub returns-then-is_before_digit-clause-none : goal.returns-then-is_before_digit-clause-none
returns-then-is_before_digit-clause-none c = alone c.args.most c.args.word.now (omega arith) (Some fault.Sign) (returns-then-is_before_digit-clause-fault c) None

pub returns-then-is_before_digit-clause-some : goal.returns-then-is_before_digit-clause-some
returns-then-is_before_digit-clause-some c = λ why. alone c.args.most c.args.word.now (omega arith) (Some fault.Sign) (returns-then-is_before_digit-clause-fault c) (Some why)

pub returns-then-is_before_digit-3-clause-none : goal.returns-then-is_before_digit-3-clause-none
returns-then-is_before_digit-3-clause-none c = alone c.args.most c.args.word.now (omega arith) (Some fault.LeadingZero) (returns-then-is_before_digit-3-clause-fault c) None

pub returns-then-is_before_digit-3-clause-some : goal.returns-then-is_before_digit-3-clause-some
returns-then-is_before_digit-3-clause-some c = λ why. alone c.args.most c.args.word.now (omega arith) (Some fault.LeadingZero) (returns-then-is_before_digit-3-clause-fault c) (Some why)

pub returns-then-is_empty-clause-none : goal.returns-then-is_empty-clause-none
returns-then-is_empty-clause-none c = alone c.args.most c.args.word.now (omega arith) (Some fault.NoNumber) (returns-then-is_empty-clause-fault c) None

pub returns-then-is_empty-clause-some : goal.returns-then-is_empty-clause-some
returns-then-is_empty-clause-some c = λ why. alone c.args.most c.args.word.now (omega arith) (Some fault.NoNumber) (returns-then-is_empty-clause-fault c) (Some why)

pub returns-then-is_unit-clause-none : goal.returns-then-is_unit-clause-none
returns-then-is_unit-clause-none c = alone c.args.most c.args.word.now (omega arith) (Some fault.Unit) (returns-then-is_unit-clause-fault c) None

pub returns-then-is_unit-clause-some : goal.returns-then-is_unit-clause-some
returns-then-is_unit-clause-some c = λ why. alone c.args.most c.args.word.now (omega arith) (Some fault.Unit) (returns-then-is_unit-clause-fault c) (Some why)

pub returns-then-not-is_empty-clause-none : goal.returns-then-not-is_empty-clause-none
returns-then-not-is_empty-clause-none c = alone c.args.most c.args.word.now (omega arith) (Some fault.NoNumber) (returns-then-not-is_empty-clause-fault c) None

pub returns-then-not-is_empty-clause-some : goal.returns-then-not-is_empty-clause-some
returns-then-not-is_empty-clause-some c = λ why. alone c.args.most c.args.word.now (omega arith) (Some fault.NoNumber) (returns-then-not-is_empty-clause-fault c) (Some why)

pub returns-in-Some-clause-some : goal.returns-in-Some-clause-some
returns-in-Some-clause-some c = λ why. alone c.args.most c.args.word.now (omega arith) None (returns-in-Some-clause-fault c) (Some why)

pub returns-in_default-clause-none : goal.returns-in_default-clause-none
returns-in_default-clause-none c = alone c.args.most c.args.word.now (omega arith) (Some fault.TooLarge) (returns-in_default-clause-fault c) None

pub returns-in_default-clause-some : goal.returns-in_default-clause-some
returns-in_default-clause-some c = λ why. alone c.args.most c.args.word.now (omega arith) (Some fault.TooLarge) (returns-in_default-clause-fault c) (Some why)

pub returns-in_default-2-clause-none : goal.returns-in_default-2-clause-none
returns-in_default-2-clause-none c = alone c.args.most c.args.word.now (omega arith) (Some fault.TooLarge) (returns-in_default-2-clause-fault c) None

pub returns-in_default-2-clause-some : goal.returns-in_default-2-clause-some
returns-in_default-2-clause-some c = λ why. alone c.args.most c.args.word.now (omega arith) (Some fault.TooLarge) (returns-in_default-2-clause-fault c) (Some why)
