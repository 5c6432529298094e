-- Words that would be numbers: each is one, or has one fault.
use Rattle.std.proofs.Common.{◌≡◌, ℕ, ◌^◌, ◌<◌, ◌≤◌, List, [], take, drop, length, get_or, None, Some, Option, refl, sym, ap, ◌∙◌, subst, arith, inl, inr, append-nil, rules, Bool, true, false}
use Rattle.std.specs.Prelude.{Contains, Decides, bytes_eq}
use Rattle.std.specs.List.{list_any}
use Rattle.std.proofs.lemmas.Bool.Decides.{Decides-by_or}
use Rattle.std.proofs.lemmas.Slice.Eq.{bytes_eq-Decides}
use Rattle.std.specs.Int.{IsInRange}
use Rattle.std.specs.Str.Parse.{AllDigits, IsNumeral, digits_value}
use Rattle.std.proofs.lemmas.Bool.{cases_lt, false≢true}
use Rattle.std.proofs.lemmas.Fmt.{decimal_is_IsNumeral}
use Rattle.std.proofs.lemmas.List.{take-append-drop, take_all, length-take-le, length-drop}
use Rattle.std.proofs.lemmas.List.Prefix.{front_reads}
use Rattle.std.proofs.lemmas.List.Elements.{All-contains, All-from_recursion, Decides-contains}
use Rattle.std.proofs.lemmas.Str.Parse.{digit_at}
use Rattle.trace_text.specs.Reading.{EndsNumber}
use Rattle.trace_text.proofs.Digits.{one_front}
use Rattle.trace_text.proofs.Numbers.{none_of_leading_zero, of_value}
use Rattle.trace_text.proofs.OnePass.{digit_inside}
use Rattle.line_reasons.specs.Numbers.{IsNumber, IsNumberFault, IsBeforeDigit, HasSign, HasLeadingZero, HasUnit, units}
use Rattle.line_reasons.specs.declared.number.NumberFault.{NumberFault}
use Rattle.line_reasons.specs.declared.number.NumberFault.TheVariants as fault

-- ---- tests

-- what would make a test true is not so where it is false
pub denied : (test : Bool) (P : Type 0) → test ≡ false → (P → test ≡ true) → ¬ P
denied test P is_false when p = false≢true (sym is_false ∙ when p)

pub no_sign : (word : List ℕ) (plus minus : Bool) → plus ≡ false → (IsBeforeDigit 43 word → plus ≡ true) → minus ≡ false → (IsBeforeDigit 45 word → minus ≡ true) → ¬ (HasSign word)
no_sign word plus minus no_plus is_plus no_minus is_minus (inl sign) = denied plus _ no_plus is_plus sign
no_sign word plus minus no_plus is_plus no_minus is_minus (inr sign) = denied minus _ no_minus is_minus sign

-- ---- numbers

-- of digits with no leading zero, 0 is the first only where it is the only one
zero_alone : (word : List ℕ) → AllDigits 10 word → ¬ (HasLeadingZero word) → get_or word 0 0 ≡ 48 → length word ≤ 1
zero_alone word all zero first =
    elim (cases_lt 1 (length word)) [ inl long ↦ absurd (zero (first, digit_at word 1 all long)) | inr short ↦ short ]

-- digits with no leading zero are the text of their value
pub number_of_digits : (most : ℕ) (word : List ℕ) → most < 2 ^ 64 → IsNumeral 10 word → ¬ (HasLeadingZero word) → digits_value 10 word ≤ most → IsNumber most word
number_of_digits most word fits numeral zero small =
    (digits_value 10 word, small, of_value word numeral.1 numeral.0 (zero_alone word numeral.1 zero) (omega arith))

-- a number's text is digits
digits_of_number : (most : ℕ) (word : List ℕ) → most < 2 ^ 64 → (number : IsNumber most word) → IsNumeral 10 word × (digits_value 10 word ≡ number.0)
digits_of_number most word fits number =
    let h = decimal_is_IsNumeral number.0 (omega (arith, number.1)) in
    subst (λ (w : List ℕ). IsNumeral 10 w × (digits_value 10 w ≡ number.0)) (sym number.2) h

-- and no leading zero
number_has_no_zero : (most : ℕ) (word : List ℕ) → most < 2 ^ 64 → IsNumber most word → ¬ (HasLeadingZero word)
number_has_no_zero most word fits number zero =
    none_of_leading_zero word number.0 zero.0 (digit_inside word 1 zero.1) (omega (arith, number.1)) number.2

-- ---- bytes that are no digits

-- digits begin with one
first_digit : (word : List ℕ) → IsNumeral 10 word → IsInRange 48 57 (get_or word 0 0)
first_digit word numeral = digit_at word 0 numeral.1 numeral.0

-- a unit begins with a letter
letter_of_unit : (unit : List ℕ) → Contains units unit → (0 < length unit) × (57 < get_or unit 0 0)
letter_of_unit unit is =
    All-contains (λ (w : List ℕ). (0 < length w) × (57 < get_or w 0 0)) units unit (All-from_recursion (λ (w : List ℕ). (0 < length w) × (57 < get_or w 0 0)) units (search rules)) is

unit_ends_number : (unit : List ℕ) → Contains units unit → EndsNumber unit
unit_ends_number unit is digit = omega (arith, letter_of_unit unit is, digit)

-- nor do no bytes
nothing_ends_number : EndsNumber []
nothing_ends_number digit = omega (arith, digit)

-- digits with a unit behind them begin with a digit
first_before_unit : (word : List ℕ) → HasUnit word → IsInRange 48 57 (get_or word 0 0)
first_before_unit word has = subst (IsInRange 48 57) (sym (front_reads 0 word has.0 has.1 has.4 0 has.2.0)) (first_digit has.0 has.2)

-- and are not digits alone
unit_is_no_digits : (word : List ℕ) → HasUnit word → IsNumeral 10 word → ⊥
unit_is_no_digits word has all =
    let both = one_front word has.0 [] has.1 all.1 has.2.1 nothing_ends_number (unit_ends_number has.1 has.3) (append-nil word ∙ has.4) in
    omega (arith, letter_of_unit has.1 has.3, ap length both.1)

-- whether a word is one of some words
pub is_one_of : (all : List (List ℕ)) (word : List ℕ) → Decides (list_any (λ (one : List ℕ). bytes_eq one word) all) (Contains all word)
is_one_of all word =
    Decides-contains all word _ (Decides-by_or (λ (one : List ℕ). bytes_eq one word) (λ (one : List ℕ). one ≡ word) (list_any (λ (one : List ℕ). bytes_eq one word)) (λ one. bytes_eq-Decides one word) refl (λ _ _. refl) all)

-- ---- what is told

-- where no digit stands in front
pub none_in_front : (most : ℕ) (word : List ℕ) → EndsNumber word → ¬ (HasSign word) → ¬ (HasLeadingZero word) → IsNumberFault most word fault.NoNumber
none_in_front most word none sign zero = (sign, zero, λ has. none (first_before_unit word has), λ numeral. none (first_digit word numeral))

-- where a unit stands behind the digits
pub unit_behind : (most : ℕ) (word : List ℕ) (count : ℕ) → 0 < count → count ≤ length word → AllDigits 10 (take count word) → Contains units (drop count word) → ¬ (HasLeadingZero word) → IsNumberFault most word fault.Unit
unit_behind most word count some within digits is zero =
    ((take count word, drop count word, (omega (arith, length-take-le count word within), digits), is, sym (take-append-drop count word)), zero)

-- where something else does
pub other_behind : (most : ℕ) (word : List ℕ) (count : ℕ) → AllDigits 10 (take count word) → EndsNumber (drop count word) → 0 < length (drop count word) → ¬ (Contains units (drop count word)) → ¬ (HasSign word) → ¬ (HasLeadingZero word)
    → IsNumberFault most word fault.NoNumber
other_behind most word count digits ends some other sign zero = (
  sign,
  zero,
  λ has.
      let both = one_front (take count word) has.0 (drop count word) has.1 digits has.2.1 ends (unit_ends_number has.1 has.3) (take-append-drop count word ∙ has.4) in
      other (subst (Contains units) (sym both.1) has.3),
  λ numeral.
      let both = one_front (take count word) word (drop count word) [] digits numeral.1 ends nothing_ends_number (take-append-drop count word ∙ sym (append-nil word)) in
      omega (arith, ap length both.1),
)

-- where nothing does
pub digits_alone : (word : List ℕ) (count : ℕ) → 0 < count → count ≤ length word → AllDigits 10 (take count word) → length (drop count word) ≡ 0 → IsNumeral 10 word
digits_alone word count some within digits none =
    (omega arith, subst (AllDigits 10) (take_all count word (omega (arith, length-drop count word))) digits)

-- ---- one answer of each word

-- what a word is: a number, or one with this fault
abbrev pub IsAnswer : ℕ → List ℕ → Option NumberFault → Type 0
IsAnswer most word None = IsNumber most word
IsAnswer most word (Some why) = IsNumberFault most word why

sign_is_no_digit : (word : List ℕ) → HasSign word → IsInRange 48 57 (get_or word 0 0) → ⊥
sign_is_no_digit word (inl plus) digit = omega (arith, plus.0, digit.0)
sign_is_no_digit word (inr minus) digit = omega (arith, minus.0, digit.0)

module _ (most : ℕ) (word : List ℕ) (fits : most < 2 ^ 64) where
  sign_alone : (b : Option NumberFault) → IsAnswer most word (Some fault.Sign) → IsAnswer most word b → b ≡ Some fault.Sign
  sign_alone None sign is = absurd (sign_is_no_digit word sign (first_digit word (digits_of_number most word fits is).0))
  sign_alone (Some fault.Sign) sign is = refl
  sign_alone (Some fault.LeadingZero) sign is = absurd (sign_is_no_digit word sign (omega (arith, is.0), omega (arith, is.0)))
  sign_alone (Some fault.Unit) sign is = absurd (sign_is_no_digit word sign (first_before_unit word is.0))
  sign_alone (Some fault.TooLarge) sign is = absurd (sign_is_no_digit word sign (first_digit word is.0))
  sign_alone (Some fault.NoNumber) sign is = absurd (is.0 sign)

  leading_zero_alone : (b : Option NumberFault) → IsAnswer most word (Some fault.LeadingZero) → IsAnswer most word b → b ≡ Some fault.LeadingZero
  leading_zero_alone None zero is = absurd (number_has_no_zero most word fits is zero)
  leading_zero_alone (Some fault.Sign) zero is = sym (sign_alone (Some fault.LeadingZero) is zero)
  leading_zero_alone (Some fault.LeadingZero) zero is = refl
  leading_zero_alone (Some fault.Unit) zero is = absurd (is.1 zero)
  leading_zero_alone (Some fault.TooLarge) zero is = absurd (is.2 zero)
  leading_zero_alone (Some fault.NoNumber) zero is = absurd (is.1 zero)

  unit_alone : (b : Option NumberFault) → IsAnswer most word (Some fault.Unit) → IsAnswer most word b → b ≡ Some fault.Unit
  unit_alone None unit is = absurd (unit_is_no_digits word unit.0 (digits_of_number most word fits is).0)
  unit_alone (Some fault.Sign) unit is = sym (sign_alone (Some fault.Unit) is unit)
  unit_alone (Some fault.LeadingZero) unit is = sym (leading_zero_alone (Some fault.Unit) is unit)
  unit_alone (Some fault.Unit) unit is = refl
  unit_alone (Some fault.TooLarge) unit is = absurd (unit_is_no_digits word unit.0 is.0)
  unit_alone (Some fault.NoNumber) unit is = absurd (is.2 unit.0)

  large_alone : (b : Option NumberFault) → IsAnswer most word (Some fault.TooLarge) → IsAnswer most word b → b ≡ Some fault.TooLarge
  large_alone None large is = absurd (omega (arith, large.1, is.1, (digits_of_number most word fits is).1))
  large_alone (Some fault.Sign) large is = sym (sign_alone (Some fault.TooLarge) is large)
  large_alone (Some fault.LeadingZero) large is = sym (leading_zero_alone (Some fault.TooLarge) is large)
  large_alone (Some fault.Unit) large is = sym (unit_alone (Some fault.TooLarge) is large)
  large_alone (Some fault.TooLarge) large is = refl
  large_alone (Some fault.NoNumber) large is = absurd (is.3 large.0)

  no_number_alone : (b : Option NumberFault) → IsAnswer most word (Some fault.NoNumber) → IsAnswer most word b → b ≡ Some fault.NoNumber
  no_number_alone None other is = absurd (other.3 (digits_of_number most word fits is).0)
  no_number_alone (Some fault.Sign) other is = sym (sign_alone (Some fault.NoNumber) is other)
  no_number_alone (Some fault.LeadingZero) other is = sym (leading_zero_alone (Some fault.NoNumber) is other)
  no_number_alone (Some fault.Unit) other is = sym (unit_alone (Some fault.NoNumber) is other)
  no_number_alone (Some fault.TooLarge) other is = sym (large_alone (Some fault.NoNumber) is other)
  no_number_alone (Some fault.NoNumber) other is = refl

  one_answer : (a b : Option NumberFault) → IsAnswer most word a → IsAnswer most word b → b ≡ a
  one_answer (Some fault.Sign) b is also = sign_alone b is also
  one_answer (Some fault.LeadingZero) b is also = leading_zero_alone b is also
  one_answer (Some fault.Unit) b is also = unit_alone b is also
  one_answer (Some fault.TooLarge) b is also = large_alone b is also
  one_answer (Some fault.NoNumber) b is also = no_number_alone b is also
  one_answer None None is also = refl
  one_answer None (Some fault.Sign) is also = sym (sign_alone None also is)
  one_answer None (Some fault.LeadingZero) is also = sym (leading_zero_alone None also is)
  one_answer None (Some fault.Unit) is also = sym (unit_alone None also is)
  one_answer None (Some fault.TooLarge) is also = sym (large_alone None also is)
  one_answer None (Some fault.NoNumber) is also = sym (no_number_alone None also is)

  -- one answer is so
  pub alone : (a : Option NumberFault) → IsAnswer most word a → (b : Option NumberFault) → IsAnswer most word b → a ≡ b
  alone a is b also = sym (one_answer a b is also)
