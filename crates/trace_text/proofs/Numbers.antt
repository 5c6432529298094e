-- Numbers: which digits are the decimal text of a number, and the value of a front of them.
use Rattle.std.proofs.Common.{◌≡◌, ℕ, ◌+◌, ◌-◌, ◌*◌, ◌^◌, ◌<◌, ◌≤◌, List, take, length, get_or, ap, ◌∙◌, sym, arith, inl, inr, eq-zero-or-pos}
use Rattle.std.specs.Fmt.{decimal}
use Rattle.std.specs.Char.{digit_value}
use Rattle.std.specs.Str.Parse.{digits_value, AllDigits}
use Rattle.std.proofs.lemmas.Bool.Decides.{nat_tests}
use Rattle.std.proofs.lemmas.Fmt.{decimal_nonempty, decimal_digit, first_decimal, digits_value-decimal, decimal-digits_value}
use Rattle.std.proofs.lemmas.Int.Digits.{digits_value_more, digits_more}
use Rattle.std.proofs.lemmas.Str.Parse.{IsNumeralModel, numerals_by_value, tells_digits, digits_value-take-le}

-- digits, and their value, in std's words
pub numerals : IsNumeralModel (AllDigits 10) (digits_value 10)
numerals = numerals_by_value (AllDigits 10) tells_digits

-- an empty text is no number's
pub none_of_empty : (ds : List ℕ) (n : ℕ) → length ds ≡ 0 → n < 2 ^ 64 → ds ≡ decimal n → ⊥
none_of_empty ds n empty fits e = absurd (omega (arith, decimal_nonempty n fits, ap length e))

length_of_zero : (n : ℕ) → n ≡ 0 → length (decimal n) ≡ 1
length_of_zero n zero_is = ap length (decimal_digit n (omega arith))

-- a longer text that begins with 0 is no number's
pub none_of_leading_zero : (ds : List ℕ) (n : ℕ) → get_or ds 0 0 ≡ 48 → 1 < length ds → n < 2 ^ 64 → ds ≡ decimal n → ⊥
none_of_leading_zero ds n first long fits e =
    elim (eq-zero-or-pos n) [
      | inl z ↦ absurd (omega (arith, length_of_zero n z, ap length e))
      | inr p ↦ absurd (omega (arith, first_decimal n p fits, ap (λ l. get_or l 0 0) e))
    ]

-- the value of a digit
pub value_of_digit : (c : ℕ) → 48 ≤ c → c ≤ 57 → digit_value c ≡ c - 48
value_of_digit c low high = grind (arith, nat_tests)

-- the value of a number's first digits, and one digit more, stays below 2^64
pub front_fits : (ds : List ℕ) (n i : ℕ) → i < length ds → n < 2 ^ 64 → ds ≡ decimal n → digits_value 10 (take i ds) * 10 + digit_value (get_or ds i 0) < 2 ^ 64
front_fits ds n i within fits e =
    omega (arith, digits_value_more 10 ds i within, digits_value-take-le 10 ds (i + 1) (omega arith), ap (digits_value 10) e, digits_value-decimal numerals n fits)

-- the value of one digit more
pub value_next : (ds : List ℕ) (i c : ℕ) → i < length ds → get_or ds i 0 ≡ c → 48 ≤ c → c ≤ 57 → digits_value 10 (take (i + 1) ds) ≡ digits_value 10 (take i ds) * 10 + (c - 48)
value_next ds i c within is low high = digits_value_more 10 ds i within ∙ ap (λ x. digits_value 10 (take i ds) * 10 + x) (ap digit_value is ∙ value_of_digit c low high)

-- digits, and one more
pub digits_next : (ds : List ℕ) (i c : ℕ) → i < length ds → get_or ds i 0 ≡ c → 48 ≤ c → c ≤ 57 → AllDigits 10 (take i ds) → AllDigits 10 (take (i + 1) ds)
digits_next ds i c within is low high front = digits_more 10 ds i within front (omega (arith, ap digit_value is, value_of_digit c low high))

-- digits without a leading zero are the text of their value
pub of_value : (ds : List ℕ) → AllDigits 10 ds → 0 < length ds → (get_or ds 0 0 ≡ 48 → length ds ≤ 1) → digits_value 10 ds < 2 ^ 64 → ds ≡ decimal (digits_value 10 ds)
of_value ds all some zero_is fits = sym (decimal-digits_value numerals ds all some (λ e. let short = zero_is e in omega arith) fits)
