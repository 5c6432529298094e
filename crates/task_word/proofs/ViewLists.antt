-- Lists of views: what changes where one of them is set, added or taken away.
use Rattle.std.proofs.Common.{◌≡◌, ℕ, ◌+◌, ◌≤◌, ◌≢◌, zero, suc, inl, inr, List, [], ◌∷◌, ◌++◌, set, slice_index, refl, sym, ap, arith}
use Rattle.std.specs.List.{sum_by}
use Rattle.std.proofs.lemmas.Bool.{cases_lt}
use mathlib.Core.Option.{some, some-injective, some-ne-none}
use lib.ListN.{get_elem?}
use Rattle.std.proofs.lemmas.List.Sums.{sum_by-cons, sum_by-append}
use Rattle.std.proofs.Math.Nat.{max-le}
use Rattle.task_word.specs.Views.{greater}

module _ {A : Type 0} (f : A → ℕ) where
  -- the sum where one is set
  pub sum_set : (xs : List A) (i : ℕ) (x y : A) → get_elem? xs i ≡ some x → sum_by f (set xs i y) + f x ≡ sum_by f xs + f y
  sum_set [] i x y at = absurd (some-ne-none x (sym at))
  sum_set (u ∷ us) zero x y at = let same : f u ≡ f x = ap f (some-injective _ _ at) in omega (arith, sum_by-cons f u us, sum_by-cons f y us)
  sum_set (u ∷ us) (suc i) x y at = let rest = sum_set us i x y at in omega (arith, sum_by-cons f u us, sum_by-cons f u (set us i y))

  -- the sum where one is put at the end
  pub sum_last : (xs : List A) (y : A) → sum_by f (xs ++ y ∷ []) ≡ sum_by f xs + f y
  sum_last xs y = omega (arith, sum_by-append f xs (y ∷ []), sum_by-cons f y [])

  -- each is counted
  pub sum_part : (xs : List A) (i : ℕ) (x : A) → get_elem? xs i ≡ some x → f x ≤ sum_by f xs
  sum_part [] i x at = absurd (some-ne-none x (sym at))
  sum_part (u ∷ us) zero x at = let same : f u ≡ f x = ap f (some-injective _ _ at) in omega (arith, sum_by-cons f u us)
  sum_part (u ∷ us) (suc i) x at = let rest = sum_part us i x at in omega (arith, sum_by-cons f u us)

  -- two at different places are counted both
  pub sum_parts : (xs : List A) (i j : ℕ) (x y : A) → i ≢ j → get_elem? xs i ≡ some x → get_elem? xs j ≡ some y → f x + f y ≤ sum_by f xs
  sum_parts [] i j x y apart at there = absurd (some-ne-none x (sym at))
  sum_parts (u ∷ us) zero zero x y apart at there = absurd (apart refl)
  sum_parts (u ∷ us) zero (suc j) x y apart at there = let same : f u ≡ f x = ap f (some-injective _ _ at) in let rest = sum_part us j y there in omega (arith, sum_by-cons f u us)
  sum_parts (u ∷ us) (suc i) zero x y apart at there = let same : f u ≡ f y = ap f (some-injective _ _ there) in let rest = sum_part us i x at in omega (arith, sum_by-cons f u us)
  sum_parts (u ∷ us) (suc i) (suc j) x y apart at there = let n : i ≢ j = (λ e. apart (ap suc e)) in let rest = sum_parts us i j x y n at there in omega (arith, sum_by-cons f u us)

  -- where the sum is 1, one of them counts 1
  pub sum_one : (xs : List A) → sum_by f xs ≡ 1 → (i : ℕ) × (x : A) × (get_elem? xs i ≡ some x) × (f x ≡ 1)
  sum_one [] one = absurd (let z : 0 ≡ 1 = one in omega (arith, z))
  sum_one (u ∷ us) one =
      elim (cases_lt 0 (f u)) [
        | inl some_here ↦ (0, u, refl, omega (arith, one, some_here, sum_by-cons f u us))
        | inr none_here ↦ (let rest = sum_one us (omega (arith, one, none_here, sum_by-cons f u us)) in (suc rest.0, rest.1, rest.2, rest.3))
      ]

-- of two lists, the greater at each place is below what both are below
pub greater_below : (xs ys : List ℕ) (k m : ℕ) → slice_index xs k ≤ m → slice_index ys k ≤ m → slice_index (greater xs ys) k ≤ m
greater_below [] ys k m a b = b
greater_below (x ∷ xs) [] k m a b = a
greater_below (x ∷ xs) (y ∷ ys) zero m a b = max-le a b
greater_below (x ∷ xs) (y ∷ ys) (suc k) m a b = greater_below xs ys k m a b
