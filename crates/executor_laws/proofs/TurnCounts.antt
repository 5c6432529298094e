-- How many of some numbers pass a test, where it is compared with other tests.
use Rattle.std.proofs.Common.{◌≡◌, ℕ, ◌+◌, ◌<◌, ◌≤◌, ◌==◌, zero, suc, Bool, true, false, cond, inl, inr, ◌⊎◌, List, [], ◌∷◌, refl, sym, ap, ◌∙◌, arith}
use Rattle.std.specs.List.{range_with_len}
use Rattle.std.proofs.lemmas.Bool.{false≢true, eqb-true, eqb-false, false_from_ne_true}
use Rattle.queue_code.specs.Calls.{how_many}

-- what passes a test passes one of two others
pub counts_le : (f g h : ℕ → Bool) (ks : List ℕ) → ((j : ℕ) → f j ≡ true → (g j ≡ true) ⊎ (h j ≡ true)) → how_many f ks ≤ how_many g ks + how_many h ks
counts_le f g h [] each = omega arith
counts_le f g h (k ∷ ks) each = by (f k) (g k) (h k) refl refl refl (counts_le f g h ks each)
  where
    by : (x y z : Bool) → f k ≡ x → g k ≡ y → h k ≡ z → how_many f ks ≤ how_many g ks + how_many h ks →
        cond x (1 + how_many f ks) (how_many f ks) ≤ cond y (1 + how_many g ks) (how_many g ks) + cond z (1 + how_many h ks) (how_many h ks)
    by true true true p q r rest = omega (arith, rest)
    by true true false p q r rest = omega (arith, rest)
    by true false true p q r rest = omega (arith, rest)
    by true false false p q r rest = elim (each k p) [ inl so ↦ absurd (false≢true (sym q ∙ so)) | inr so ↦ absurd (false≢true (sym r ∙ so)) ]
    by false true true p q r rest = omega (arith, rest)
    by false true false p q r rest = omega (arith, rest)
    by false false true p q r rest = omega (arith, rest)
    by false false false p q r rest = rest

-- what passes one of two tests passes a third, and nothing passes both
pub counts_apart : (f g h : ℕ → Bool) (ks : List ℕ) → ((j : ℕ) → f j ≡ true → g j ≡ true) → ((j : ℕ) → h j ≡ true → g j ≡ true) → ((j : ℕ) → f j ≡ true → h j ≡ true → ⊥) →
    how_many f ks + how_many h ks ≤ how_many g ks
counts_apart f g h [] one other apart = omega arith
counts_apart f g h (k ∷ ks) one other apart = by (f k) (g k) (h k) refl refl refl (counts_apart f g h ks one other apart)
  where
    by : (x y z : Bool) → f k ≡ x → g k ≡ y → h k ≡ z → how_many f ks + how_many h ks ≤ how_many g ks →
        cond x (1 + how_many f ks) (how_many f ks) + cond z (1 + how_many h ks) (how_many h ks) ≤ cond y (1 + how_many g ks) (how_many g ks)
    by true y true p q r rest = absurd (apart k p r)
    by true true false p q r rest = omega (arith, rest)
    by true false false p q r rest = absurd (false≢true (sym q ∙ one k p))
    by false true true p q r rest = omega (arith, rest)
    by false false true p q r rest = absurd (false≢true (sym q ∙ other k r))
    by false true false p q r rest = omega (arith, rest)
    by false false false p q r rest = rest

-- what passes a test passes another
pub counts_grow : (f g : ℕ → Bool) (ks : List ℕ) → ((j : ℕ) → f j ≡ true → g j ≡ true) → how_many f ks ≤ how_many g ks
counts_grow f g [] each = omega arith
counts_grow f g (k ∷ ks) each = by (f k) (g k) refl refl (counts_grow f g ks each)
  where
    by : (x y : Bool) → f k ≡ x → g k ≡ y → how_many f ks ≤ how_many g ks → cond x (1 + how_many f ks) (how_many f ks) ≤ cond y (1 + how_many g ks) (how_many g ks)
    by true true p q rest = omega (arith, rest)
    by true false p q rest = absurd (false≢true (sym q ∙ each k p))
    by false true p q rest = omega (arith, rest)
    by false false p q rest = rest

-- a number below a range does not stand in it
none_in : (i a n : ℕ) → i < a → how_many (λ j. i == j) (range_with_len a n) ≡ 0
none_in i a zero l = refl
none_in i a (suc n) l =
    let apart : (i == a) ≡ false = false_from_ne_true (i == a) (λ q. absurd (omega (arith, l, eqb-true i a q))) in
    let rest = how_many (λ j. i == j) (range_with_len (a + 1) n) in
    ap (λ b. cond b (1 + rest) rest) apart ∙ none_in i (a + 1) n (omega (arith, l))

-- a number stands in a range at most once
pub at_most_one : (i a n : ℕ) → how_many (λ j. i == j) (range_with_len a n) ≤ 1
at_most_one i a zero = omega arith
at_most_one i a (suc n) = by (i == a) refl (at_most_one i (a + 1) n)
  where
    rest : ℕ
    rest = how_many (λ j. i == j) (range_with_len (a + 1) n)

    by : (b : Bool) → (i == a) ≡ b → rest ≤ 1 → cond b (1 + rest) rest ≤ 1
    by true q few = let none : rest ≡ 0 = none_in i (a + 1) n (omega (arith, eqb-true i a q)) in omega (arith, none)
    by false q few = few

-- and once where it is in it
pub at_least_one : (i a n : ℕ) → a ≤ i → i < a + n → 1 ≤ how_many (λ j. i == j) (range_with_len a n)
at_least_one i a zero low high = absurd (omega (arith, low, high))
at_least_one i a (suc n) low high = by (i == a) refl (at_least_one i (a + 1) n)
  where
    rest : ℕ
    rest = how_many (λ j. i == j) (range_with_len (a + 1) n)

    by : (b : Bool) → (i == a) ≡ b → (a + 1 ≤ i → i < a + 1 + n → 1 ≤ rest) → 1 ≤ cond b (1 + rest) rest
    by true q there = omega arith
    by false q there = let apart = eqb-false i a q in there (omega (arith, low, apart)) (omega (arith, high))
