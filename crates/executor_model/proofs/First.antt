-- What the first enabled task is.
use Rattle.std.proofs.Common.{◌≡◌, ℕ, ◌+◌, ◌<◌, ◌≤◌, ◌==◌, zero, suc, Bool, true, false, cond, ◌⊎◌, inl, inr, List, [], ◌∷◌, Option, Some, None, refl, sym, ap, ◌∙◌, arith, subst}
use Rattle.std.specs.List.{list_any, range_with_len}
use Rattle.std.proofs.lemmas.Bool.{false≢true, eqb-true, eq-eqb, or_cases, or_left, or_right}
use Rattle.std.proofs.lemmas.Bool.Decides.{nat_tests}
use Rattle.std.proofs.lemmas.Option.{none-some, same_Some}
use Rattle.delay_queue.specs.Queues.{comes_before}
use Rattle.executor_model.specs.View.{View, is_enabled, first_enabled, earlier, precedes}
use Rattle.executor_model.proofs.Sound.{first_is_enabled}

-- a number stands in a list
abbrev pub is_in : ℕ → List ℕ → Bool
is_in k ks = list_any (λ j. j == k) ks

before_total : (d a e b : ℕ) → comes_before d a e b ≡ false → (a ≡ b) ⊎ (comes_before e b d a ≡ true)
before_total d a e b q = grind (arith, nat_tests)

-- the order of due moments and task numbers is transitive
pub before_trans : (d a e b f c : ℕ) → comes_before d a e b ≡ true → comes_before e b f c ≡ true → comes_before d a f c ≡ true
before_trans d a e b f c p q = grind (arith, nat_tests)

-- no two tasks come before each other
pub before_irrefl : (d a e b : ℕ) → comes_before d a e b ≡ true → comes_before e b d a ≡ true → ⊥
before_irrefl d a e b p q = grind (arith, nat_tests)

-- where no task is first, none of the list is enabled
pub none_enabled : (v : View) (ks : List ℕ) (j : ℕ) → first_enabled v ks ≡ None → is_in j ks ≡ true → is_enabled v j ≡ true → ⊥
none_enabled v [] j q m e = false≢true m
none_enabled v (k ∷ ks) j q m e =
    let pick : (b : Bool) → is_enabled v k ≡ b → cond b (Some (earlier v k (first_enabled v ks))) (first_enabled v ks) ≡ None → ⊥ =
    elim [
      | true ↦ λ is q. none-some _ (sym q)
      | false ↦ λ is q. elim (or_cases (k == j) (is_in j ks) m) [ inl here ↦ false≢true (sym is ∙ (ap (is_enabled v) (eqb-true k j here) ∙ e)) | inr there ↦ none_enabled v ks j q there e ]
    ]
    in
    pick (is_enabled v k) refl q

-- where one of two is the earlier, and a third is the first of the rest or comes after it
third : (v : View) (i n k j : ℕ) → precedes v n i ≡ false → i ≡ k → (j ≡ n) ⊎ (precedes v n j ≡ true) → (j ≡ k) ⊎ (precedes v k j ≡ true)
third v i n k j not_less here rest =
    let above : (precedes v i j ≡ true) ⊎ (j ≡ i) = elim (before_total (v.fate n).due n (v.fate i).due i not_less) [
      | inl same ↦ elim rest [ inl x ↦ inr (x ∙ same) | inr x ↦ inl (subst (λ y. precedes v y j ≡ true) same x) ]
      | inr less ↦ elim rest [
        | inl x ↦ inl (subst (λ y. precedes v i y ≡ true) (sym x) less)
        | inr x ↦ inl (before_trans (v.fate i).due i (v.fate n).due n (v.fate j).due j less x)
      ]
    ]
    in
    subst (λ x. (j ≡ x) ⊎ (precedes v x j ≡ true)) here (elim above [ inl x ↦ inr x | inr x ↦ inl x ])

-- no other enabled task stands before the first
pub first_is_least : (v : View) (ks : List ℕ) (k j : ℕ) → first_enabled v ks ≡ Some k → is_in j ks ≡ true → is_enabled v j ≡ true → (j ≡ k) ⊎ (precedes v k j ≡ true)
first_is_least v [] k j q m e = absurd (none-some k q)
first_is_least v (i ∷ ks) k j q m e =
    let member = or_cases (i == j) (is_in j ks) m in
    let rest : (o : Option ℕ) → first_enabled v ks ≡ o → earlier v i o ≡ k → (j ≡ k) ⊎ (precedes v k j ≡ true) =
    elim [
      | None ↦ λ is q. elim member [ inl here ↦ inl (sym (eqb-true i j here) ∙ q) | inr there ↦ absurd (none_enabled v ks j is there e) ]
      | Some n ↦ λ is q.
          let by : (b : Bool) → precedes v n i ≡ b → cond b n i ≡ k → (j ≡ k) ⊎ (precedes v k j ≡ true) =
          elim [
            | true ↦ λ less q. elim member [
              | inl here ↦ inr (subst (λ x. precedes v x j ≡ true) q (subst (λ x. precedes v n x ≡ true) (eqb-true i j here) less))
              | inr there ↦ subst (λ x. (j ≡ x) ⊎ (precedes v x j ≡ true)) q (first_is_least v ks n j is there e)
            ]
            | false ↦ λ not_less q. elim member [
              | inl here ↦ inl (sym (eqb-true i j here) ∙ q)
              | inr there ↦ third v i n k j not_less q (first_is_least v ks n j is there e)
            ]
          ]
          in
          by (precedes v n i) refl q
    ]
    in
    let pick : (b : Bool) → is_enabled v i ≡ b → cond b (Some (earlier v i (first_enabled v ks))) (first_enabled v ks) ≡ Some k → (j ≡ k) ⊎ (precedes v k j ≡ true) =
    elim [
      | true ↦ λ is q. rest (first_enabled v ks) refl (same_Some _ k q)
      | false ↦ λ is q. elim member [ inl here ↦ absurd (false≢true (sym is ∙ (ap (is_enabled v) (eqb-true i j here) ∙ e))) | inr there ↦ first_is_least v ks k j q there e ]
    ]
    in
    pick (is_enabled v i) refl q

-- the first enabled task is one of the list
pub first_is_in : (v : View) (ks : List ℕ) (k : ℕ) → first_enabled v ks ≡ Some k → is_in k ks ≡ true
first_is_in v [] k q = absurd (none-some k q)
first_is_in v (i ∷ ks) k q =
    let rest : (o : Option ℕ) → first_enabled v ks ≡ o → earlier v i o ≡ k → is_in k (i ∷ ks) ≡ true =
    elim [
      | None ↦ λ is q. or_left (i == k) (is_in k ks) (eq-eqb i k q)
      | Some n ↦ λ is q.
          let by : (b : Bool) → cond b n i ≡ k → is_in k (i ∷ ks) ≡ true =
          elim [
            | true ↦ λ q. or_right (i == k) (is_in k ks) (first_is_in v ks k (is ∙ ap Some q))
            | false ↦ λ q. or_left (i == k) (is_in k ks) (eq-eqb i k q)
          ]
          in
          by (precedes v n i) q
    ]
    in
    let pick : (b : Bool) → cond b (Some (earlier v i (first_enabled v ks))) (first_enabled v ks) ≡ Some k → is_in k (i ∷ ks) ≡ true =
    elim [ true ↦ λ q. rest (first_enabled v ks) refl (same_Some _ k q) | false ↦ λ q. or_right (i == k) (is_in k ks) (first_is_in v ks k q) ]
    in
    pick (is_enabled v i) q

-- an enabled task that no other enabled one precedes is the first
pub first_is : (v : View) (ks : List ℕ) (k : ℕ) → is_in k ks ≡ true → is_enabled v k ≡ true →
    ((j : ℕ) → is_in j ks ≡ true → is_enabled v j ≡ true → (j ≡ k) ⊎ (precedes v k j ≡ true)) → first_enabled v ks ≡ Some k
first_is v ks k m e least =
    let pick : (o : Option ℕ) → first_enabled v ks ≡ o → first_enabled v ks ≡ Some k =
    elim [
      | None ↦ λ is. absurd (none_enabled v ks k is m e)
      | Some n ↦ λ is. elim (least n (first_is_in v ks n is) (first_is_enabled v ks n is)) [
        | inl same ↦ is ∙ ap Some same
        | inr less ↦ elim (first_is_least v ks n k is m e) [ inl same ↦ is ∙ ap Some (sym same) | inr more ↦ absurd (before_irrefl (v.fate k).due k (v.fate n).due n less more) ]
      ]
    ]
    in
    pick (first_enabled v ks) refl

-- where none is enabled there is no first
pub first_is_none : (v : View) (ks : List ℕ) → ((j : ℕ) → is_in j ks ≡ true → is_enabled v j ≡ true → ⊥) → first_enabled v ks ≡ None
first_is_none v ks none =
    let pick : (o : Option ℕ) → first_enabled v ks ≡ o → first_enabled v ks ≡ None =
    elim [ None ↦ λ is. is | Some n ↦ λ is. absurd (none n (first_is_in v ks n is) (first_is_enabled v ks n is)) ]
    in
    pick (first_enabled v ks) refl

-- a number within a range is one of its list
pub in_range : (a n k : ℕ) → a ≤ k → k < a + n → is_in k (range_with_len a n) ≡ true
in_range a zero k p q = absurd (omega (arith, p, q))
in_range a (suc n) k p q = grind (arith, nat_tests, in_range (a + 1) n k)

-- each number of a range is below its end
pub range_below : (a n k : ℕ) → is_in k (range_with_len a n) ≡ true → k < a + n
range_below a zero k q = absurd (false≢true q)
range_below a (suc n) k q = elim (or_cases (a == k) (is_in k (range_with_len (a + 1) n)) q) [
  | inl here ↦ omega (arith, eqb-true a k here)
  | inr there ↦ omega (arith, range_below (a + 1) n k there)
]
