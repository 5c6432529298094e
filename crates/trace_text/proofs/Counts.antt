-- Counts: how many bytes a text has.
use Rattle.std.proofs.Common.{◌≡◌, ℕ, zero, suc, ◌+◌, ◌*◌, ◌/◌, ◌%◌, ◌^◌, ◌<◌, ◌≤◌, [], ◌∷◌, ◌++◌, length, ap, ◌∙◌, arith, inl, inr, add-one, length-append, codes}
use Rattle.std.proofs.lemmas.Bool.{cases_lt}
use Rattle.std.specs.Fmt.{decimal}
use Rattle.std.proofs.Math.Nat.{pow-suc}
use Rattle.std.proofs.lemmas.Fmt.{decimal_digit, decimal_step, length-decimal-le}
use Rattle.sched_time.specs.declared.timing.Ending.{Ending}
use Rattle.sched_time.specs.declared.timing.Ending.TheVariants.{Value, Fault}
use Rattle.executor_model.specs.declared.Event.{Event}
use Rattle.executor_model.specs.declared.Event.TheVariants.{Clock, Start, Finish, Cancel}
use Rattle.trace_text.specs.Spelling.{event_line, ending_line, FitsEvent, FitsEnding}

-- ten times more
pub power_next : (k : ℕ) → 10 ^ (k + 1) ≡ 10 ^ k * 10
power_next k = ap (λ j. 10 ^ j) (add-one k) ∙ pow-suc 10 k

power_some : (k : ℕ) → 0 < 10 ^ k
power_some zero = omega arith
power_some (suc k) = omega (arith, power_some k, pow-suc 10 k)

-- the greater power is not less
pub power_le : (i j : ℕ) → i ≤ j → 10 ^ i ≤ 10 ^ j
power_le i zero h = let same : i ≡ 0 = omega arith in omega (arith, ap (λ k. 10 ^ k) same)
power_le i (suc j) h =
    elim (cases_lt i (suc j)) [
      | inl less ↦ omega (arith, power_le i j (omega arith), pow-suc 10 j, power_some j)
      | inr past ↦ let same : i ≡ suc j = omega arith in omega (arith, ap (λ k. 10 ^ k) same)
    ]

length_by : (k n : ℕ) → (0 < k → 10 ^ k ≤ n) → n < 10 ^ k * 10 → n < 2 ^ 64 → length (decimal n) ≡ k + 1
length_by zero n low high fits = ap length (decimal_digit n (omega (arith, high)))
length_by (suc k) n low high fits =
    let least : 10 ^ k * 10 ≤ n = omega (arith, low (omega arith), pow-suc 10 k) in
    let past : n < 10 ^ k * 10 * 10 = omega (arith, high, pow-suc 10 k) in
    let fewer : length (decimal (n / 10)) ≡ k + 1 = length_by k (n / 10) (λ p. omega (arith, least)) (omega (arith, past)) (omega (arith, fits)) in
    let step : length (decimal n) ≡ length (decimal (n / 10)) + 1 = ap length (decimal_step n (omega (arith, least, power_some k)) fits) ∙ length-append (decimal (n / 10)) ((48 + n % 10) ∷ []) in
    omega (arith, step, fewer)

-- a number that is not below the k-th power of ten, and below the next, has k + 1 digits; so does 0, where k is 0
pub length_is : (k n least : ℕ) → least ≡ 10 ^ k → (0 < k → least ≤ n) → n < least * 10 → n < 2 ^ 64 → length (decimal n) ≡ k + 1
length_is k n least is low high fits = length_by k n (λ p. omega (arith, is, low p)) (omega (arith, is, high)) fits

-- a number has at most 20 digits
pub number_short : (n : ℕ) → n < 2 ^ 64 → length (decimal n) ≤ 20
number_short n h = length-decimal-le 20 n (omega arith) (omega arith) h

worker_short : (n : ℕ) → n < 2 ^ 8 → length (decimal n) ≤ 3
worker_short n h = length-decimal-le 3 n (omega arith) (omega arith) (omega arith)

-- a number below 2^32 has at most 10 digits
pub code_short : (n : ℕ) → n < 2 ^ 32 → length (decimal n) ≤ 10
code_short n h = length-decimal-le 10 n (omega arith) (omega arith) (omega arith)

numbered : (n : ℕ) → length (decimal n ++ codes "\n") ≡ length (decimal n) + 1
numbered n = length-append (decimal n) (codes "\n")

ending_short : (e : Ending) → FitsEnding e → length (ending_line e) ≤ 25
ending_short (Value v) h = omega (arith, length-append (codes " ok ") (decimal v ++ codes "\n"), numbered v, number_short v h)
ending_short (Fault c) h = omega (arith, length-append (codes " fail ") (decimal c ++ codes "\n"), numbered c, code_short c h)

-- the line of an event has at most 35 bytes
pub event_short : (e : Event) → FitsEvent e → length (event_line e) ≤ 35
event_short (Clock t) h = omega (arith, length-append (codes "clock ") (decimal t ++ codes "\n"), numbered t, number_short t h)
event_short (Start w) h = omega (arith, length-append (codes "start ") (decimal w ++ codes "\n"), numbered w, worker_short w h)
event_short (Cancel k) h = omega (arith, length-append (codes "cancel ") (decimal k ++ codes "\n"), numbered k, code_short k h)
event_short (Finish w e) h =
    omega (arith, length-append (codes "finish ") (decimal w ++ ending_line e), length-append (decimal w) (ending_line e), worker_short w h.0, ending_short e h.1)
