-- Lists of numbers that ascend.
use Rattle.std.proofs.Common.{◌≡◌, ℕ, zero, suc, ◌+◌, ◌≤◌, ◌==◌, ◌||◌, Bool, true, false, cond, inl, inr, List, [], ◌∷◌, refl, sym, ap, ◌∙◌, arith}
use Rattle.std.specs.List.{filter, range_with_len}
use Rattle.std.proofs.lemmas.Bool.{false≢true, eqb-true, eq-eqb, or_cases, or_left, false_from_ne_true}
use Rattle.executor_model.specs.Histories.{is_end}
use Rattle.task_table.specs.Ends.{IsAscending}

-- two tests that each follow from the other agree
pub agree : (b c : Bool) → (b ≡ true → c ≡ true) → (c ≡ true → b ≡ true) → b ≡ c
agree true c there back = sym (there refl)
agree false c there back = sym (false_from_ne_true c (λ q. false≢true (back q)))

-- the first number of a list is one of it
first_is_one : (k : ℕ) (ks : List ℕ) → is_end k (k ∷ ks) ≡ true
first_is_one k ks = or_left (k == k) (is_end k ks) (eq-eqb k k refl)

-- a number of a list that ascends is the first one, or comes after it
from_first : (x k : ℕ) (xs : List ℕ) → IsAscending (x ∷ xs) → is_end k (x ∷ xs) ≡ true → x ≤ k
from_first x k xs ascending q = elim (or_cases (x == k) (is_end k xs) q) [
  | inl here ↦ omega (arith, eqb-true x k here)
  | inr there ↦ omega (arith, ascending.0 k there)
]

-- the first number does not come again
once : (x k : ℕ) (xs : List ℕ) → IsAscending (x ∷ xs) → (x == k) ≡ true → is_end k xs ≡ false
once x k xs ascending same = false_from_ne_true (is_end k xs) (λ q. absurd (omega (arith, ascending.0 k q, eqb-true x k same)))

-- lists that ascend and have the same numbers are the same
pub ascending_same : (xs ys : List ℕ) → IsAscending xs → IsAscending ys → ((k : ℕ) → is_end k xs ≡ is_end k ys) → xs ≡ ys
ascending_same [] [] p q same = refl
ascending_same [] (y ∷ ys) p q same = absurd (false≢true (same y ∙ first_is_one y ys))
ascending_same (x ∷ xs) [] p q same = absurd (false≢true (sym (same x) ∙ first_is_one x xs))
ascending_same (x ∷ xs) (y ∷ ys) p q same =
    let low : y ≤ x = from_first y x ys q (sym (same x) ∙ first_is_one x xs) in
    let high : x ≤ y = from_first x y xs p (same y ∙ first_is_one y ys) in
    let heads : x ≡ y = omega (arith, low, high) in
    let rest : (k : ℕ) → is_end k xs ≡ is_end k ys =
    λ k.
    let pick : (b : Bool) → (x == k) ≡ b → is_end k xs ≡ is_end k ys =
    elim [
      | true ↦ λ e. once x k xs p e ∙ sym (once y k ys q (ap (λ j. j == k) (sym heads) ∙ e))
      | false ↦ λ e. sym (ap (λ b. b || is_end k xs) e) ∙ (same k ∙ ap (λ b. b || is_end k ys) (ap (λ j. j == k) (sym heads) ∙ e))
    ]
    in
    pick (x == k) refl
    in
    let tails = ascending_same xs ys p.1 q.1 rest in
    λ i. heads i ∷ tails i

-- a number of a range that passes a test is from its first number on
from_start : (test : ℕ → Bool) (a n k : ℕ) → is_end k (filter test (range_with_len a n)) ≡ true → a ≤ k
from_start test a zero k q = absurd (false≢true q)
from_start test a (suc n) k q =
    let rest : is_end k (filter test (range_with_len (a + 1) n)) ≡ true → a ≤ k = λ r. omega (arith, from_start test (a + 1) n k r) in
    let pick : (b : Bool) → is_end k (cond b (a ∷ filter test (range_with_len (a + 1) n)) (filter test (range_with_len (a + 1) n))) ≡ true → a ≤ k =
    elim [
      | true ↦ λ r. elim (or_cases (a == k) (is_end k (filter test (range_with_len (a + 1) n))) r) [ inl here ↦ omega (arith, eqb-true a k here) | inr there ↦ rest there ]
      | false ↦ λ r. rest r
    ]
    in
    pick (test a) q

-- the numbers of a range that pass a test ascend
pub filtered_ascends : (test : ℕ → Bool) (a n : ℕ) → IsAscending (filter test (range_with_len a n))
filtered_ascends test a zero = tt
filtered_ascends test a (suc n) =
    let rest = filtered_ascends test (a + 1) n in
    let pick : (b : Bool) → IsAscending (cond b (a ∷ filter test (range_with_len (a + 1) n)) (filter test (range_with_len (a + 1) n))) =
    elim [ true ↦ (λ k q. omega (arith, from_start test (a + 1) n k q), rest) | false ↦ rest ]
    in
    pick (test a)
