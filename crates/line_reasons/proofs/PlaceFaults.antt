-- Words in the places of numbers: whether each is one that fits.
use Rattle.std.proofs.Common.{◌≡◌, ◌≢◌, ◌↔◌, ℕ, ◌^◌, ◌<◌, ◌≤◌, List, refl, sym, ap, ◌∙◌, arith, inl, inr, codes}
use Rattle.std.specs.Fmt.{decimal}
use Rattle.std.proofs.lemmas.Fmt.{decimal_digit, decimal_injective}
use Rattle.std.proofs.lemmas.Bool.{cases_lt}
use Rattle.line_reasons.specs.declared.form.EventNumber.{EventNumber}
use Rattle.line_reasons.specs.declared.form.EventNumber.TheVariants as number
use Rattle.line_reasons.specs.declared.call_form.CallNumber.TheVariants as in_call
use Rattle.line_reasons.specs.Numbers.{FitsNumber, IsNumber, IsOfUse, least_number}
use Rattle.line_reasons.specs.own.Places.{IsPlaced}

-- the word 0 is the text of 0
is_zero : codes "0" ≡ decimal 0
is_zero = sym (decimal_digit 0 (omega arith))

-- and of no other number
zero_is : (n : ℕ) → n < 2 ^ 64 → codes "0" ≡ decimal n → n ≡ 0
zero_is n fits is = decimal_injective n 0 fits (omega arith) (sym is ∙ is_zero)

-- the least number is 0 or 1
least_is_small : (place : EventNumber) → least_number place ≤ 1
least_is_small number.Moment = omega arith
least_is_small number.Starter = omega arith
least_is_small number.Finisher = omega arith
least_is_small number.Value = omega arith
least_is_small number.Code = omega arith
least_is_small number.Task = omega arith
least_is_small (number.Call in_call.Delay) = omega arith
least_is_small (number.Call in_call.RateFirst) = omega arith
least_is_small (number.Call in_call.Period) = omega arith
least_is_small (number.Call in_call.FixedFirst) = omega arith
least_is_small (number.Call in_call.FixedDelay) = omega arith
least_is_small (number.Call in_call.Task) = omega arith

-- a number but a worker is of use where it fits
pub others_of_use : (place : EventNumber) → place ≢ number.Starter → place ≢ number.Finisher → (n : ℕ) → FitsNumber place n ↔ IsOfUse place n
others_of_use number.Starter not_starter not_finisher n = absurd (not_starter refl)
others_of_use number.Finisher not_starter not_finisher n = absurd (not_finisher refl)
others_of_use _ not_starter not_finisher n = (λ fits. fits, λ fits. fits)

module _ (place : EventNumber) (word : List ℕ) (most : ℕ) (small : most < 2 ^ 64) (fit : (n : ℕ) → ((least_number place ≤ n) × (n ≤ most)) ↔ FitsNumber place n) where
  -- 0 is none where the least one is greater
  pub zero_is_none : 0 < least_number place → word ≡ codes "0" → ¬ (IsPlaced place word)
  zero_is_none above is placed =
      let within = (fit placed.0).1 placed.1 in
      let zero : placed.0 ≡ 0 = zero_is placed.0 (omega (arith, within.1, small)) (sym is ∙ placed.2) in
      omega (arith, within.0, zero, above)

  -- a number up to the greatest is one where the least is 0
  pub number_is_one : least_number place ≤ 0 → IsNumber most word → IsPlaced place word
  number_is_one none number = (number.0, (fit number.0).0 (omega (arith, none), number.1), number.2)

  -- and where it is not 0
  pub other_is_one : word ≢ codes "0" → IsNumber most word → IsPlaced place word
  other_is_one other number =
      elim (cases_lt 0 number.0) [
        | inl above ↦ (number.0, (fit number.0).0 (omega (arith, above, least_is_small place), number.1), number.2)
        | inr zero ↦
            let none : number.0 ≡ 0 = omega (arith, zero) in
            absurd (other (number.2 ∙ (ap decimal none ∙ sym is_zero)))
      ]
