-- How many binary digits a number has.
use Rattle.std.proofs.Common.{◌≡◌, ℕ, zero, suc, ◌+◌, ◌*◌, ◌/◌, ◌^◌, ◌<◌, ◌≤◌, ◌≢◌, ⊎_elim, length, refl, ap, ◌∙◌, arith}
use Rattle.std.proofs.lemmas.Bool.{cases_eq, cases_lt}
use Rattle.std.specs.Int.Digits.{digits_of}
use Rattle.std.proofs.lemmas.Int.Digits.{length-digits_of_step, length-digits_of-le}
use Rattle.delay_queue.specs.Touches.{binary_digits, most_touches}
use Rattle.delay_queue.specs.slots.own.Heaps.{parent, level}

-- the last digit is one of them
pub digits_step : (n m : ℕ) → 0 < n → n / 2 ≡ m → binary_digits n ≡ binary_digits m + 1
unfolding binary_digits
digits_step n m some half = length-digits_of_step 2 n (omega arith) some ∙ ap (λ (k : ℕ). length (digits_of 2 k) + 1) half

-- a number below a power of two has no more digits than its exponent
pub digits_within : (n k : ℕ) → n < 2 ^ k → binary_digits n ≤ k
unfolding binary_digits
digits_within n k small = length-digits_of-le 2 k n (omega arith) small

-- 0 has none
pub digits_zero : binary_digits 0 ≡ 0
digits_zero = omega (arith, digits_within 0 0 (omega arith))

-- 1 has one
pub digits_one : binary_digits 1 ≡ 1
digits_one = digits_step 1 0 (omega arith) (omega arith) ∙ ap (λ (k : ℕ). k + 1) digits_zero

more_within : (turns m n : ℕ) → n ≤ turns → m ≤ n → binary_digits m ≤ binary_digits n
more_within zero m n small le = let none : m ≡ n = omega arith in omega (arith, ap (λ (k : ℕ). binary_digits k) none)
more_within (suc turns) m n small le =
    ⊎_elim
    (λ (none : m ≡ 0). omega (arith, digits_zero, ap (λ (k : ℕ). binary_digits k) none))
    (λ (some : m ≢ 0).
    let less = more_within turns (m / 2) (n / 2) (omega arith) (omega arith) in
    omega (arith, less, digits_step m (m / 2) (omega arith) refl, digits_step n (n / 2) (omega arith) refl))
    (cases_eq m 0)

-- a greater number has no fewer digits
pub digits_more : (m n : ℕ) → m ≤ n → binary_digits m ≤ binary_digits n
digits_more m n le = more_within n m n (omega arith) le

-- each number but 0 has a digit
pub digits_some : (n : ℕ) → 0 < binary_digits (n + 1)
digits_some n = omega (arith, digits_one, digits_more 1 (n + 1) (omega arith))

-- a number above one has two
pub digits_two : (n : ℕ) → 0 < n → 2 ≤ binary_digits (n + 1)
digits_two n some = omega (arith, digits_step 2 1 (omega arith) (omega arith), digits_one, digits_more 2 (n + 1) (omega arith))

-- four times a number has two digits more
pub digits_four : (n : ℕ) → 0 < n → binary_digits (4 * n) ≡ binary_digits n + 2
digits_four n some = omega (arith, digits_step (4 * n) (2 * n) (omega arith) (omega arith), digits_step (2 * n) n (omega arith) (omega arith))

-- a place is two levels at least from the one above it
pub level_below : (place up : ℕ) → 0 < place → parent place ≡ up → level up + 2 ≤ level place
level_below place up some above =
    omega (arith, digits_four (3 * up + 1) (omega arith), digits_more (4 * (3 * up + 1)) (3 * place + 1) (omega arith))

-- each place has a level
pub level_some : (place : ℕ) → 0 < level place
level_some place = digits_some (3 * place)

-- the level of a place among so many, or of that behind them
pub level_within : (place size : ℕ) → place ≤ size → level place ≤ binary_digits size + 2
level_within place size inside =
    ⊎_elim
    (λ (none : size ≡ 0). let first : place ≡ 0 = omega arith in omega (arith, digits_one, ap (λ (k : ℕ). binary_digits (3 * k + 1)) first))
    (λ (some : size ≢ 0). omega (arith, digits_four size (omega arith), digits_more (3 * place + 1) (4 * size) (omega arith)))
    (cases_eq size 0)

-- as many touches as a place lets a call make, which sinks there and rises from there
pub few_touches : (sunk risen place hole size : ℕ) → hole < size → sunk + 2 * level place ≤ 2 * level hole → risen ≤ level hole → sunk + risen + 1 ≤ most_touches (size + 1)
few_touches sunk risen place hole size inside s r =
    let all : sunk + risen + 3 ≤ 3 * level hole + 2 = omega (arith, level_some place, s, r) in
    ⊎_elim
    (λ (small : hole < 3). omega (arith, all, level_some place, s, r, digits_within (3 * hole + 1) 3 (omega arith), digits_two size (omega arith)))
    (λ (great : 3 ≤ hole). omega (
      arith,
      all,
      level_some place,
      s,
      r,
      level_within hole size (omega arith),
      digits_more size (size + 1) (omega arith),
      digits_more 4 size (omega arith),
      digits_four 1 (omega arith),
      digits_one,
    ))
    (cases_lt hole 3)
