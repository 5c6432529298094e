-- The first worker of a kind, by a table of flags.
use Rattle.std.proofs.Common.{◌≡◌, ◌≢◌, ℕ, ◌+◌, ◌<◌, ◌≤◌, zero, suc, Bool, true, false, cond, List, Some, None, refl, sym, ap, ◌∙◌, arith, inl, inr, ◌⊎◌}
use Rattle.std.specs.Prelude.{not, slice_index_or, if◌then◌else◌}
use Rattle.std.proofs.Math.Bool.{beq}
use Rattle.std.specs.List.{range_with_len}
use Rattle.std.proofs.lemmas.Bool.{cases_order}
use Rattle.std.specs.List.{find}

step : (a w : ℕ) → a ≤ w → (a ≡ w) ⊎ (a + 1 ≤ w)
step a w low = elim (cases_order a w) [ inl same ↦ inl same | inr other ↦ elim other [ inl less ↦ inr (omega (arith, less)) | inr more ↦ absurd (omega (arith, more)) ] ]

first_none : (test : ℕ → Bool) (a n : ℕ) → ((v : ℕ) → a ≤ v → v < a + n → test v ≡ false) → find test (range_with_len a n) ≡ None
first_none test a zero never = refl
first_none test a (suc n) never =
    ap (λ b. cond b (Some a) (find test (range_with_len (a + 1) n))) (never a (omega arith) (omega arith))
    ∙ first_none test (a + 1) n (λ v low high. never v (omega arith) (omega arith))

first_some : (test : ℕ → Bool) (a n w : ℕ) → a ≤ w → w < a + n → ((v : ℕ) → a ≤ v → v < w → test v ≡ false) → test w ≡ true → find test (range_with_len a n) ≡ Some w
first_some test a zero w low high never is = absurd (omega arith)
first_some test a (suc n) w low high never is =
    elim (step a w low) [
      | inl here ↦ ap (λ b. cond b (Some a) (find test (range_with_len (a + 1) n))) (ap test here ∙ is) ∙ ap Some here
      | inr more ↦ ap (λ b. cond b (Some a) (find test (range_with_len (a + 1) n))) (never a (omega arith) (omega (arith, more)))
          ∙ first_some test (a + 1) n w more (omega arith) (λ v l h. never v (omega arith) h) is
    ]

-- whether a flag is as wanted
wanted_flag : (wanted flag : Bool) → flag ≡ wanted → (if wanted then flag else not flag) ≡ true
wanted_flag true flag is = is
wanted_flag false flag is = ap not is

other_flag : (wanted flag : Bool) → flag ≢ wanted → (if wanted then flag else not flag) ≡ false
other_flag true true other = absurd (other refl)
other_flag true false other = refl
other_flag false true other = refl
other_flag false false other = absurd (other refl)

-- a flag that is as wanted, and before which none is, is the first that a test finds
pub found : (flags : List Bool) (wanted : Bool) (workers w : ℕ) (test : ℕ → Bool) → workers < 256 → w < workers → ((v : ℕ) → v < w → slice_index_or flags v false ≢ wanted) → slice_index_or flags w false ≡ wanted →
    ((v : ℕ) → v < 256 → test v ≡ (if wanted then slice_index_or flags v false else not (slice_index_or flags v false))) → Some w ≡ find test (range_with_len 0 workers)
found flags wanted workers w test few l never is same =
    sym (first_some test 0 workers w (omega arith) (omega arith) (λ v low h. same v (omega arith) ∙ other_flag wanted (slice_index_or flags v false) (never v h)) (same w (omega arith) ∙ wanted_flag wanted (slice_index_or flags w false) is))

-- where no flag is as wanted, a test finds none
pub none_found : (flags : List Bool) (wanted : Bool) (workers w : ℕ) (test : ℕ → Bool) → workers < 256 → workers ≤ w → ((v : ℕ) → v < w → slice_index_or flags v false ≢ wanted) →
    ((v : ℕ) → v < 256 → test v ≡ (if wanted then slice_index_or flags v false else not (slice_index_or flags v false))) → None ≡ find test (range_with_len 0 workers)
none_found flags wanted workers w test few l never same =
    sym (first_none test 0 workers (λ v low h. same v (omega arith) ∙ other_flag wanted (slice_index_or flags v false) (never v (omega arith))))

-- truth values that compare equal are the same
pub beq_same : (a b : Bool) → beq a b ≡ true → a ≡ b
beq_same true true is = refl
beq_same true false is = sym is
beq_same false true is = is
beq_same false false is = refl
