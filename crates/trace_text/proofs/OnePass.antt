-- A number read in one pass.
use Rattle.std.proofs.Common.{◌≡◌, ℕ, ◌+◌, ◌-◌, ◌*◌, ◌%◌, ◌^◌, ◌<◌, ◌≤◌, List, ◌++◌, take, drop, length, get_or, ap, ◌∙◌, sym, subst, refl, arith, inl, inr}
use Rattle.std.specs.Fmt.{decimal}
use Rattle.std.specs.Char.{digit_value}
use Rattle.std.specs.Int.{IsInRange}
use Rattle.std.specs.Str.Parse.{digits_value, AllDigits}
use Rattle.std.proofs.lemmas.Bool.{cases_lt}
use Rattle.std.proofs.lemmas.List.{take-append-le, take-append-drop, get_or_append_left, get_or-append_right, get_or-take, get_or_past, length-take, length-drop, take_all}
use Rattle.std.proofs.lemmas.Str.Parse.{digit_at}
use Rattle.trace_text.specs.Reading.{EndsNumber}
use Rattle.std.proofs.lemmas.Fmt.{length-decimal-le}
use Rattle.trace_text.proofs.Numbers.{front_fits, value_of_digit, value_next, digits_next, of_value, none_of_empty, none_of_leading_zero}
use Rattle.trace_text.proofs.Counts.{power_le, power_next}
use Rattle.trace_text.proofs.Digits.{no_number}

self_less : (k : ℕ) → k - k ≡ 0
self_less k = omega arith

-- digits in front belong to the number that stands in front
inside : (line : List ℕ) (i n : ℕ) (rest : List ℕ) → i < length line → AllDigits 10 (take (i + 1) line) → EndsNumber rest → line ≡ decimal n ++ rest → i < length (decimal n)
inside line i n rest within all ends e =
    let k = length (decimal n) in
    elim (cases_lt i k) [
      | inl less ↦ less
      | inr past ↦
          let digit = digit_at (take (i + 1) line) k all (omega (arith, length-take (i + 1) line)) in
          let here : get_or (take (i + 1) line) k 0 ≡ get_or rest 0 0 = get_or-take (i + 1) line k 0 (omega arith) ∙ (ap (λ l. get_or l k 0) e ∙ (get_or-append_right (decimal n) rest k k 0 (omega arith) (omega arith) ∙ ap (λ j. get_or rest j 0) (self_less k))) in
          absurd (ends (subst (IsInRange 48 57) here digit))
    ]

-- so their value with one digit more is within the number
pub within_number : (line : List ℕ) (i n c : ℕ) (rest : List ℕ) → i < length line → n < 2 ^ 64 → get_or line i 0 ≡ c → 48 ≤ c → c ≤ 57 → AllDigits 10 (take (i + 1) line) → EndsNumber rest → line ≡ decimal n ++ rest →
    digits_value 10 (take i line) * 10 + (c - 48) < 2 ^ 64
within_number line i n c rest within fits is low high all ends e =
    let l = inside line i n rest within all ends e in
    let front : take i line ≡ take i (decimal n) = ap (take i) e ∙ take-append-le i (decimal n) rest (omega arith) in
    let digit : get_or line i 0 ≡ get_or (decimal n) i 0 = ap (λ x. get_or x i 0) e ∙ get_or_append_left (decimal n) rest 0 i l in
    omega (arith, front_fits (decimal n) n i l fits refl, ap (digits_value 10) front, ap digit_value (sym digit ∙ is), value_of_digit c low high)

-- where no digit stands in front, no number does
pub no_digits : (line : List ℕ) (end : ℕ) → end ≡ 0 → AllDigits 10 (take end line) → EndsNumber (drop end line) → (n : ℕ) (rest : List ℕ) → n < 2 ^ 64 → EndsNumber rest → line ≡ decimal n ++ rest → ⊥
no_digits line end zero_is all ends n rest fits plain e =
    no_number line end n rest all ends (λ m small is. none_of_empty (take end line) m (omega (arith, length-take end line)) small is) fits plain e

-- where a 0 stands before further digits, no number does
pub leading_zero : (line : List ℕ) (end : ℕ) → get_or line 0 0 ≡ 48 → 1 < end → end ≤ length line → AllDigits 10 (take end line) → EndsNumber (drop end line) →
    (n : ℕ) (rest : List ℕ) → n < 2 ^ 64 → EndsNumber rest → line ≡ decimal n ++ rest → ⊥
leading_zero line end first long within all ends n rest fits plain e =
    no_number line end n rest all ends (λ m small is. none_of_leading_zero (take end line) m (get_or-take end line 0 0 (omega arith) ∙ first) (omega (arith, length-take end line)) small is) fits plain e

-- digits without a leading zero are the text of their value
pub the_number : (line : List ℕ) (end value : ℕ) → 0 < end → end ≤ length line → (get_or line 0 0 ≡ 48 → end ≤ 1) → AllDigits 10 (take end line) → value ≡ digits_value 10 (take end line) → value < 2 ^ 64 → line ≡ decimal value ++ drop end line
the_number line end value some within zero_is all is fits =
    sym (take-append-drop end line)
    ∙ ap (λ x. x ++ drop end line)
    (of_value (take end line) all (omega (arith, length-take end line)) (λ f. let short = zero_is (sym (get_or-take end line 0 0 (omega arith)) ∙ f) in omega (arith, length-take end line, short)) (omega (arith, is)) ∙ ap decimal (sym is))

-- what a slice from a place on holds
pub from_end : (line : List ℕ) (end : ℕ) → take (length line - end) (drop end line) ≡ drop end line
from_end line end = take_all (length line - end) (drop end line) (omega (arith, length-drop end line))

-- a number of fewer than 19 digits, and one digit more, stay below the greatest
pub below_power : (i value : ℕ) → i < 19 → value < 10 ^ i → value < 10 ^ 18
below_power i value few small = omega (arith, small, power_le i 18 (omega arith))

-- a digit more multiplies the limit by ten
pub power_more : (i value digit : ℕ) → value < 10 ^ i → digit ≤ 9 → value * 10 + digit < 10 ^ (i + 1)
power_more i value digit small single = omega (arith, small, single, power_next i)

-- what a byte is that is at most 9 once 48 is taken off, round the greatest number
pub record IsDigitCode (code : ℕ) : Type 0 where
  pub low : 48 ≤ code
  pub high : code ≤ 57
  pub value : (code + 18446744073709551568) % 18446744073709551616 ≡ code - 48

-- a byte that is at most 9 once 48 is taken off, round the greatest number, is a digit
pub digit_within : (code : ℕ) → code < 256 → (code + 18446744073709551568) % 18446744073709551616 ≤ 9 → IsDigitCode code
digit_within code byte small = record {
  low = omega (arith, byte, small);
  high = omega (arith, byte, small);
  value = omega (arith, byte, small);
}

-- a place where a digit stands is within the bytes
pub digit_inside : (bytes : List ℕ) (at : ℕ) → IsInRange 48 57 (get_or bytes at 0) → at < length bytes
digit_inside bytes at digit =
    elim (cases_lt at (length bytes)) [
      | inl less ↦ less
      | inr past ↦ absurd (omega (arith, digit, get_or_past bytes at 0 past))
    ]

-- nineteen digits and the one behind them are twenty
pub twenty_in_front : (bytes : List ℕ) (at : ℕ) → at ≡ 19 → IsInRange 48 57 (get_or bytes at 0) → AllDigits 10 (take at bytes) → AllDigits 10 (take 20 bytes)
twenty_in_front bytes at here digit all =
    subst (λ k. AllDigits 10 (take (k + 1) bytes)) here
    (digits_next bytes at (get_or bytes at 0) (digit_inside bytes at digit) refl (omega (arith, digit)) (omega (arith, digit)) all)

-- the twentieth of twenty digits
pub twentieth : (line : List ℕ) → 20 ≤ length line → AllDigits 10 (take 20 line) → IsInRange 48 57 (get_or line 19 0)
twentieth line within all =
    subst (IsInRange 48 57) (get_or-take 20 line 19 0 (omega arith)) (digit_at (take 20 line) 19 all (omega (arith, length-take 20 line, within)))

-- twenty digits, whose value is too great, stand at the front
pub too_great : (line : List ℕ) (value : ℕ) → 20 ≤ length line → AllDigits 10 (take 20 line) → value ≡ digits_value 10 (take 19 line) → 2 ^ 64 ≤ value * 10 + (get_or line 19 0 - 48) →
    (n : ℕ) (rest : List ℕ) → n < 2 ^ 64 → EndsNumber rest → line ≡ decimal n ++ rest → ⊥
too_great line value within all is great n rest fits ends e =
    let digit = twentieth line within all in
    absurd (omega (arith, is, great, within_number line 19 n (get_or line 19 0) rest (omega (arith, within)) fits refl (omega (arith, digit)) (omega (arith, digit)) all ends e))

-- more than twenty digits stand at the front
pub too_long : (line : List ℕ) → 20 ≤ length line → AllDigits 10 (take 20 line) → IsInRange 48 57 (get_or line 20 0) → (n : ℕ) (rest : List ℕ) → n < 2 ^ 64 → EndsNumber rest → line ≡ decimal n ++ rest → ⊥
too_long line within all digit n rest fits ends e =
    let longer : 20 < length line = longer_than line 20 (omega (arith, digit)) in
    absurd (omega (
      arith,
      length-decimal-le 20 n (omega arith) (omega arith) fits,
      inside line 20 n rest longer (digits_next line 20 (get_or line 20 0) longer refl (omega (arith, digit)) (omega (arith, digit)) all) ends e,
    ))
  where
    longer_than : (line : List ℕ) (i : ℕ) → 0 < get_or line i 0 → i < length line
    longer_than line i some =
        elim (cases_lt i (length line)) [
          | inl less ↦ less
          | inr past ↦ absurd (omega (arith, some, get_or_past line i 0 past))
        ]

-- the value of twenty digits
pub value_of_twenty : (line : List ℕ) (value : ℕ) → 20 ≤ length line → AllDigits 10 (take 20 line) → value ≡ digits_value 10 (take 19 line) → value * 10 + (get_or line 19 0 - 48) ≡ digits_value 10 (take 20 line)
value_of_twenty line value within all is =
    let digit = twentieth line within all in
    omega (arith, is, value_next line 19 (get_or line 19 0) (omega (arith, within)) refl (omega (arith, digit)) (omega (arith, digit)))
