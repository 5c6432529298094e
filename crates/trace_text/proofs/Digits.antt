-- Digits: where a number in front of other bytes ends.
use Rattle.std.proofs.Common.{◌≡◌, ℕ, ◌+◌, ◌^◌, ◌<◌, List, [], ◌∷◌, ◌++◌, take, drop, get_or, ap, ◌∙◌, sym, refl, subst, arith, get_or-drop}
use Rattle.std.specs.Fmt.{decimal}
use Rattle.std.specs.Int.{IsInRange}
use Rattle.std.specs.Str.Parse.{AllDigits}
use Rattle.std.proofs.lemmas.Fmt.{decimal_injective, digits_decimal}
use Rattle.std.proofs.lemmas.Str.Parse.{digit_from_value}
use Rattle.std.proofs.lemmas.List.{take-append-drop}
use Rattle.trace_text.specs.Reading.{EndsNumber}
use Rattle.trace_text.proofs.Numbers.{numerals}

-- the digits in front, all of them, are the same in two equal texts
pub one_front : (a b x y : List ℕ) → AllDigits 10 a → AllDigits 10 b → EndsNumber x → EndsNumber y → a ++ x ≡ b ++ y → (a ≡ b) × (x ≡ y)
one_front [] [] x y p q e f h = (refl, h)
one_front [] (d ∷ b) x y p q e f h = absurd (e (subst (IsInRange 48 57) (ap (λ l. get_or l 0 0) (sym h)) (digit_from_value d q.0)))
one_front (c ∷ a) [] x y p q e f h = absurd (f (subst (IsInRange 48 57) (ap (λ l. get_or l 0 0) h) (digit_from_value c p.0)))
one_front (c ∷ a) (d ∷ b) x y p q e f h =
    let head : c ≡ d = ap (λ l. get_or l 0 0) h in
    let rest = one_front a b x y p.1 q.1 e f (ap (drop 1) h) in
    let same : a ≡ b = rest.0 in
    (cc, rest.1)

-- one number alone stands in front of bytes, and one rest behind it
pub one_number : (n m : ℕ) (x y : List ℕ) → n < 2 ^ 64 → m < 2 ^ 64 → EndsNumber x → EndsNumber y → decimal n ++ x ≡ decimal m ++ y → (n ≡ m) × (x ≡ y)
one_number n m x y a b e f h =
    let both = one_front (decimal n) (decimal m) x y (digits_decimal numerals n a) (digits_decimal numerals m b) e f h in
    (decimal_injective n m a b both.0, both.1)

-- a byte that is no digit ends a number
pub ends_before : (xs : List ℕ) (i c : ℕ) → get_or xs i 0 ≡ c → (IsInRange 48 57 c → ⊥) → EndsNumber (drop i xs)
ends_before xs i c e no_digit =
    let here : i + 0 ≡ i = omega arith in
    λ r. no_digit (subst (IsInRange 48 57) (get_or-drop i xs 0 0 ∙ ap (λ k. get_or xs k 0) here ∙ e) r)

-- where the digits in front spell no number, no number stands in front
pub no_number : (line : List ℕ) (k n : ℕ) (rest : List ℕ) → AllDigits 10 (take k line) → EndsNumber (drop k line) → ((m : ℕ) → m < 2 ^ 64 → take k line ≡ decimal m → ⊥)
    → n < 2 ^ 64 → EndsNumber rest → line ≡ decimal n ++ rest → ⊥
no_number line k n rest all end none fits ends e =
    none n fits (one_front (take k line) (decimal n) (drop k line) rest all (digits_decimal numerals n fits) end ends (take-append-drop k line ∙ e)).0
