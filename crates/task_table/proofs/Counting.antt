-- Counts that agree, as what they count is matched one by one.
use Rattle.std.proofs.Common.{◌≡◌, ℕ, zero, suc, ◌+◌, ◌<◌, ◌≤◌, ◌==◌, ◌&&◌, Bool, true, false, cond, List, [], ◌∷◌, length, refl, sym, ap, ◌∙◌, arith}
use Rattle.std.specs.Prelude.{not, slice_index_or}
use Rattle.std.specs.List.{range_with_len}
use Rattle.std.proofs.lemmas.Bool.{false≢true, eqb-true, eq-eqb, and_parts, false_from_ne_true}
use Rattle.queue_code.specs.Calls.{how_many}

-- a test that one number does not pass, and which else is the same
abbrev without : (ℕ → Bool) → ℕ → ℕ → Bool
without f j u = not (j == u) && f u

-- tests that agree from the first number of a range on count the same
same_count : (f g : ℕ → Bool) (a n : ℕ) → ((u : ℕ) → a ≤ u → f u ≡ g u) → how_many f (range_with_len a n) ≡ how_many g (range_with_len a n)
same_count f g a zero same = refl
same_count f g a (suc n) same =
    let here = same a (omega arith) in
    let rest = same_count f g (a + 1) n (λ u l. same u (omega (arith, l))) in
    λ i. cond (here i) (1 + rest i) (rest i)

-- where no number of a range passes a test, none is counted
none_counted : (f : ℕ → Bool) (a n : ℕ) → ((j : ℕ) → a ≤ j → j < a + n → f j ≡ false) → how_many f (range_with_len a n) ≡ 0
none_counted f a zero none = refl
none_counted f a (suc n) none =
    let here = none a (omega arith) (omega arith) in
    let rest = none_counted f (a + 1) n (λ j low high. none j (omega (arith, low)) (omega (arith, high))) in
    λ i. cond (here i) (1 + rest i) (rest i)

-- a number of a range that passes a test counts as one
counts_one : (f : ℕ → Bool) (a n j : ℕ) → a ≤ j → j < a + n → f j ≡ true → how_many f (range_with_len a n) ≡ 1 + how_many (without f j) (range_with_len a n)
counts_one f a zero j low high q = absurd (omega (arith, low, high))
counts_one f a (suc n) j low high q =
    let pick : (b : Bool) → (j == a) ≡ b → how_many f (range_with_len a (suc n)) ≡ 1 + how_many (without f j) (range_with_len a (suc n)) =
    elim [
      | true ↦ λ e.
          let at : f a ≡ true = ap f (sym (eqb-true j a e)) ∙ q in
          let rest : how_many f (range_with_len (a + 1) n) ≡ how_many (without f j) (range_with_len (a + 1) n) =
          same_count f (without f j) (a + 1) n (λ u l. sym (ap (λ b. not b && f u) (false_from_ne_true (j == u) (λ same. absurd (omega (arith, l, eqb-true j a e, eqb-true j u same)))))) in
          (λ i. cond (at i) (1 + rest i) (rest i)) ∙ sym (ap (λ b. 1 + cond (not b && f a) (1 + how_many (without f j) (range_with_len (a + 1) n)) (how_many (without f j) (range_with_len (a + 1) n))) e)
      | false ↦ λ e.
          let later : a + 1 ≤ j = other a j low e in
          let rest = counts_one f (a + 1) n j later (omega (arith, high)) q in
          by (f a) _ _ rest ∙ sym (ap (λ b. 1 + cond (not b && f a) (1 + how_many (without f j) (range_with_len (a + 1) n)) (how_many (without f j) (range_with_len (a + 1) n))) e)
    ]
    in
    pick (j == a) refl
  where
    other : (a j : ℕ) → a ≤ j → (j == a) ≡ false → a + 1 ≤ j
    other a j low e = let apart : j ≡ a → ⊥ = λ same. false≢true (sym e ∙ eq-eqb j a same) in omega (arith, low, apart)

    by : (b : Bool) (x y : ℕ) → x ≡ 1 + y → cond b (1 + x) x ≡ 1 + cond b (1 + y) y
    by true x y same = ap (λ n. 1 + n) same
    by false x y same = same

-- what passes a test in a range is matched one by one with what passes another one among the numbers below an end
record Matches (f : ℕ → Bool) (n : ℕ) (g : ℕ → Bool) (a k : ℕ) (to : ℕ → ℕ) : Type 0 where
  each : (i : ℕ) → a ≤ i → i < a + k → g i ≡ true → (to i < n) × (f (to i) ≡ true)
  apart : (i j : ℕ) → a ≤ i → i < a + k → a ≤ j → j < a + k → g i ≡ true → g j ≡ true → to i ≡ to j → i ≡ j
  all : (j : ℕ) → j < n → f j ≡ true → (i : ℕ) × (a ≤ i) × (i < a + k) × (g i ≡ true) × (to i ≡ j)

-- where the first number of the range does not pass, the others are matched
matches_rest : (f : ℕ → Bool) (n : ℕ) (g : ℕ → Bool) (a k : ℕ) (to : ℕ → ℕ) → Matches f n g a (suc k) to → g a ≡ false → Matches f n g (a + 1) k to
matches_rest f n g a k to m fails = record {
  each = λ i low high q. m.each i (omega (arith, low)) (omega (arith, high)) q;
  apart = λ i j p q r s. m.apart i j (omega (arith, p)) (omega (arith, q)) (omega (arith, r)) (omega (arith, s));
  all = λ j low q.
      let at = m.all j low q in
      let differ : a ≡ at.0 → ⊥ = λ e. false≢true (sym fails ∙ (ap g e ∙ at.3)) in
      (at.0, omega (arith, at.1, differ), omega (arith, at.2), at.3, at.4);
}

-- where it passes, the others are matched with all but its match
matches_others : (f : ℕ → Bool) (n : ℕ) (g : ℕ → Bool) (a k : ℕ) (to : ℕ → ℕ) → Matches f n g a (suc k) to → g a ≡ true → Matches (without f (to a)) n g (a + 1) k to
matches_others f n g a k to m passes = record {
  each = λ i low high q.
      let at = m.each i (omega (arith, low)) (omega (arith, high)) q in
      let differ : (to a == to i) ≡ false = false_from_ne_true (to a == to i) (λ e. let same : a ≡ i = m.apart a i (omega arith) (omega arith) (omega (arith, low)) (omega (arith, high)) passes q (eqb-true (to a) (to i) e) in absurd (omega (arith, low, same))) in
      (at.0, ap (λ b. not b && f (to i)) differ ∙ at.1);
  apart = λ i j p q r s. m.apart i j (omega (arith, p)) (omega (arith, q)) (omega (arith, r)) (omega (arith, s));
  all = λ j low q.
      let parts = and_parts (not (to a == j)) (f j) q in
      let at = m.all j low parts.1 in
      let differ : a ≡ at.0 → ⊥ = λ e. false≢true (sym (ap not (eq-eqb (to a) j (ap to e ∙ at.4))) ∙ parts.0) in
      (at.0, omega (arith, at.1, differ), omega (arith, at.2), at.3, at.4);
}

-- counts of what is matched are equal
matched_from : (f : ℕ → Bool) (n : ℕ) (g : ℕ → Bool) (a k : ℕ) (to : ℕ → ℕ) → Matches f n g a k to → how_many f (range_with_len 0 n) ≡ how_many g (range_with_len a k)
matched_from f n g a zero to m = none_counted f 0 n (λ j low high. false_from_ne_true (f j) (λ q. let at = m.all j (omega (arith, high)) q in absurd (omega (arith, at.1, at.2))))
matched_from f n g a (suc k) to m =
    let pick : (b : Bool) → g a ≡ b → how_many f (range_with_len 0 n) ≡ cond b (1 + how_many g (range_with_len (a + 1) k)) (how_many g (range_with_len (a + 1) k)) =
    elim [
      | true ↦ λ q.
          let at = m.each a (omega arith) (omega arith) q in
          counts_one f 0 n (to a) (omega arith) (omega (arith, at.0)) at.1 ∙ ap (λ c. 1 + c) (matched_from (without f (to a)) n g (a + 1) k to (matches_others f n g a k to m q))
      | false ↦ λ q. matched_from f n g (a + 1) k to (matches_rest f n g a k to m q)
    ]
    in
    pick (g a) refl

-- what passes a test below one end is counted as what passes another one below another end, where `to` matches them one by one
pub matched : (f g : ℕ → Bool) (n k : ℕ) (to : ℕ → ℕ) → ((i : ℕ) → i < k → g i ≡ true → (to i < n) × (f (to i) ≡ true)) →
    ((i j : ℕ) → i < k → j < k → g i ≡ true → g j ≡ true → to i ≡ to j → i ≡ j) →
    ((j : ℕ) → j < n → f j ≡ true → (i : ℕ) × (i < k) × (g i ≡ true) × (to i ≡ j)) → how_many f (range_with_len 0 n) ≡ how_many g (range_with_len 0 k)
matched f g n k to each apart all = matched_from f n g 0 k to (record {
  each = λ i low high q. each i (omega (arith, high)) q;
  apart = λ i j p q r s. apart i j (omega (arith, q)) (omega (arith, s));
  all = λ j low q. let at = all j low q in (at.0, omega arith, omega (arith, at.1), at.2, at.3);
})

-- a count by places is one of the list, where the tests agree
places_counted : {X : Type 0} (f : ℕ → Bool) (g : X → Bool) (d : X) (first : ℕ) (xs : List X) → ((k : ℕ) → f (first + k) ≡ g (slice_index_or xs k d)) → how_many f (range_with_len first (length xs)) ≡ how_many g xs
places_counted f g d first [] same = refl
places_counted f g d first (x ∷ xs) same =
    let at : f first ≡ g x = ap f (first_is first) ∙ same 0 in
    let rest = places_counted f g d (first + 1) xs (λ k. ap f (next_is first k) ∙ same (suc k)) in
    ap (λ n. how_many f (range_with_len first n)) (longer x xs) ∙ (λ i. cond (at i) (1 + rest i) (rest i))
  where
    first_is : (n : ℕ) → n ≡ n + 0
    first_is n = omega arith

    next_is : (n k : ℕ) → n + 1 + k ≡ n + suc k
    next_is n k = omega arith

    longer : {X : Type 0} (x : X) (xs : List X) → length (x ∷ xs) ≡ suc (length xs)
    longer x xs = omega arith

-- what passes a test below an end is counted as the items of a list that pass another one, where their places are matched
pub matched_list : {X : Type 0} (f : ℕ → Bool) (n : ℕ) (g : X → Bool) (xs : List X) (d : X) (to : ℕ → ℕ) →
    ((i : ℕ) → i < length xs → g (slice_index_or xs i d) ≡ true → (to i < n) × (f (to i) ≡ true)) →
    ((i j : ℕ) → i < length xs → j < length xs → g (slice_index_or xs i d) ≡ true → g (slice_index_or xs j d) ≡ true → to i ≡ to j → i ≡ j) →
    ((j : ℕ) → j < n → f j ≡ true → (i : ℕ) × (i < length xs) × (g (slice_index_or xs i d) ≡ true) × (to i ≡ j)) → how_many f (range_with_len 0 n) ≡ how_many g xs
matched_list f n g xs d to each apart all =
    matched f (λ i. g (slice_index_or xs i d)) n (length xs) to each apart all ∙ places_counted (λ i. g (slice_index_or xs i d)) g d 0 xs (λ k. ap (λ i. g (slice_index_or xs i d)) (none_first k))
  where
    none_first : (n : ℕ) → 0 + n ≡ n
    none_first n = omega arith
