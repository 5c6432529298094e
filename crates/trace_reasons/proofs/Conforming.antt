-- Numbers from 1 on of which something holds, in ascending order.
use Rattle.std.proofs.Common.{◌≡◌, ℕ, ◌+◌, ◌<◌, ◌≤◌, List, [], ◌∷◌, ◌++◌, length, get_or, arith, subst, inl, inr}
use Rattle.std.specs.List.{Contains}
use Rattle.std.specs.List.Sorted.{IsStrictlyIncreasing}
use Rattle.std.proofs.lemmas.Bool.{cases_lt}
use Rattle.std.proofs.lemmas.List.{get_or_append_left, get_or_push, length_push}
use Rattle.std.proofs.lemmas.List.Elements.{Contains-push, Contains-push_cases, Contains-get_or, Contains-append_left}

-- these are the numbers from 1 on and below a limit of which P holds, in ascending order
pub record AreThose (P : ℕ → Type 0) (limit : ℕ) (numbers : List ℕ) : Type 0 where
  pub sound : (n : ℕ) → Contains numbers n → (1 ≤ n) × (n < limit) × P n
  pub whole : (n : ℕ) → 1 ≤ n → n < limit → P n → Contains numbers n
  pub ascending : IsStrictlyIncreasing numbers

-- a number that is greater than each before it stands behind them
increasing_push : (xs : List ℕ) (y : ℕ) → IsStrictlyIncreasing xs → ((x : ℕ) → Contains xs x → x < y) → IsStrictlyIncreasing (xs ++ y ∷ [])
increasing_push xs y sorted below k within =
    elim (cases_lt (k + 1) (length xs)) [
      | inl inside ↦ omega (arith, sorted k inside, get_or_append_left xs (y ∷ []) 0 k (omega (arith, inside)), get_or_append_left xs (y ∷ []) 0 (k + 1) inside)
      | inr last ↦
          let at : length xs ≡ k + 1 = omega (arith, last, within, length_push xs y) in
          omega (arith, get_or_append_left xs (y ∷ []) 0 k (omega (arith, at)), get_or_push xs y 0 (k + 1) at, below (get_or xs k 0) (Contains-get_or xs k 0 (omega (arith, at))))
    ]

-- the next one is one of them
pub one_more : (P : ℕ → Type 0) (n : ℕ) (numbers : List ℕ) → 1 ≤ n → P n → AreThose P n numbers → AreThose P (n + 1) (numbers ++ n ∷ [])
one_more P n numbers least holds those = record {
  sound = λ m has. elim (Contains-push_cases numbers n m has) [
    | inl before ↦ ((those.sound m before).0, omega (arith, (those.sound m before).1), (those.sound m before).2)
    | inr same ↦ subst (λ k. (1 ≤ k) × (k < n + 1) × P k) same (least, omega arith, holds)
  ];
  whole = λ m first below here. elim (cases_lt m n) [
    | inl before ↦ Contains-append_left numbers (n ∷ []) m (those.whole m first before here)
    | inr last ↦ subst (λ k. Contains (numbers ++ n ∷ []) k) (omega (arith, last, below)) (Contains-push numbers n)
  ];
  ascending = increasing_push numbers n those.ascending (λ x has. (those.sound x has).1);
}

-- the next one is none of them
pub none_more : (P : ℕ → Type 0) (n : ℕ) (numbers : List ℕ) → (P n → ⊥) → AreThose P n numbers → AreThose P (n + 1) numbers
none_more P n numbers fails those = record {
  sound = λ m has. ((those.sound m has).0, omega (arith, (those.sound m has).1), (those.sound m has).2);
  whole = λ m first below here. elim (cases_lt m n) [
    | inl before ↦ those.whole m first before here
    | inr last ↦ absurd (fails (subst P (omega (arith, last, below)) here))
  ];
  ascending = those.ascending;
}
