-- A table of the bytes of names tells what their definition tells.
use Rattle.std.proofs.Common.{◌≡◌, ◌<◌, ℕ, zero, suc, Bool, true, false, ◌&&◌, not, List, slice_index_or, refl, sym, inl, inr, arith}
use Rattle.std.proofs.lemmas.Bool.{and_parts}
use Rattle.std.proofs.lemmas.Bool.Decides.{eqb_tells}
use Rattle.plan_read.specs.task_names.Names.{is_name_byte}

-- whether two truth values are the same
abbrev pub same : Bool → Bool → Bool
same true b = b
same false b = not b

are_same : (a b : Bool) → same a b ≡ true → a ≡ b
are_same true b h = sym h
are_same false false h = refl
are_same false true h = absurd (cc)

-- whether each number below another passes
abbrev pub all_below : ℕ → (ℕ → Bool) → Bool
all_below zero p = true
all_below (suc n) p = p n && all_below n p

passes : (n : ℕ) (p : ℕ → Bool) → all_below n p ≡ true → (b : ℕ) → b < n → p b ≡ true
passes zero p h b lt = absurd (omega (arith, lt))
passes (suc n) p h b lt =
    elim (eqb_tells b n) [
      | inl t ↦ rw t.1 (and_parts (p n) (all_below n p) h).0
      | inr f ↦ passes n p (and_parts (p n) (all_below n p) h).1 b (omega (arith, lt, f.1))
    ]

-- a table that tells it of each number below the first that it has not
pub looked_up : (table : List Bool) (n : ℕ) → all_below n (λ b. same (slice_index_or table b false) (is_name_byte b)) ≡ true
    → (b : ℕ) → b < n → slice_index_or table b false ≡ is_name_byte b
looked_up table n h b lt = are_same _ _ (passes n (λ b. same (slice_index_or table b false) (is_name_byte b)) h b lt)
