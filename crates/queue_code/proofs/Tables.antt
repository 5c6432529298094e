-- The table of the indexes at which loops begin.
use Rattle.std.proofs.Common.{◌≡◌, ℕ, zero, suc, ◌+◌, ◌<◌, List, [], ◌∷◌, ◌++◌, Option, Some, inl, inr, length, drop, get_or, refl, sym, ap, subst, ◌∙◌, arith}
use Rattle.std.specs.List.{slice_get}
use Rattle.std.proofs.lemmas.Option.{slice_get_within, get_or_from_slice_get, slice_get_read}
use Rattle.std.proofs.lemmas.Bool.{cases_lt}
use Rattle.queue_code.specs.declared.instr.Instr.{Instr}
use Rattle.queue_code.specs.declared.instr.Instr.TheVariants.{Loop, EndLoop}
use Rattle.queue_code.specs.Cursors.{Enclosing, loop_behind, loop_around}
use Rattle.queue_code.specs.own.Cursors.{IsLoopTable}
use Rattle.queue_code.proofs.Enclosing.{loop_next, encloses}

-- what the table reads is the place of the loop, and the loop begins there
pub finds_place : (code : List Instr) (table : List ℕ) (index : ℕ) (loop : Enclosing) (p : ℕ) → IsLoopTable code table → index < length code → loop_around code index ≡ Some loop → p ≡ get_or table index p
    → (p ≡ loop.place) × (slice_get code p ≡ Some (Loop loop.times loop.every)) × (p < length code)
finds_place code table index loop p has low is read =
    let known = encloses code index loop (omega (arith, low)) is in
    let e : p ≡ loop.place = read ∙ get_or_from_slice_get table index loop.place p (has index loop low is) in
    (e, rw e known.begins, rw e (slice_get_within code loop.place (Loop loop.times loop.every) known.begins))

-- the instruction that is read there is the loop's beginning
pub finds_loop : (code : List Instr) (table : List ℕ) (index : ℕ) (loop : Enclosing) (p : ℕ) (i : Instr) → IsLoopTable code table → index < length code → loop_around code index ≡ Some loop
    → p ≡ get_or table index p → i ≡ get_or code p i → i ≡ Loop loop.times loop.every
finds_loop code table index loop p i has low is read here = here ∙ get_or_from_slice_get code p (Loop loop.times loop.every) i (finds_place code table index loop p has low is read).1

-- so its numbers are those of the loop
pub same_numbers : (p times every : ℕ) (loop : Enclosing) → p ≡ loop.place → Loop times every ≡ Loop loop.times loop.every → ◌≡◌ {A = ℕ × ℕ × ℕ} (p, times, every) (loop.place, loop.times, loop.every)
same_numbers p times every loop e f = cc

entry_old : (table : List ℕ) (p k : ℕ) → k < length table → slice_get (table ++ p ∷ []) k ≡ slice_get table k
entry_old [] p k low = absurd (omega (arith, low))
entry_old (x ∷ table) p zero low = refl
entry_old (x ∷ table) p (suc k) low = entry_old table p k (omega (arith, low))

entry_new : (table : List ℕ) (p k : ℕ) → k ≡ length table → slice_get (table ++ p ∷ []) k ≡ Some p
entry_new [] p zero is = refl
entry_new [] p (suc k) is = absurd (omega (arith, is))
entry_new (x ∷ table) p zero is = absurd (omega (arith, is))
entry_new (x ∷ table) p (suc k) is = entry_new table p k (omega (arith, is))

-- one entry more
pub entries_more : (code : List Instr) (table : List ℕ) (p n : ℕ) → length table ≡ n → ((k : ℕ) (loop : Enclosing) → k < n → loop_around code k ≡ Some loop → slice_get table k ≡ Some loop.place)
    → ((loop : Enclosing) → loop_around code n ≡ Some loop → p ≡ loop.place)
    → (k : ℕ) (loop : Enclosing) → k < n + 1 → loop_around code k ≡ Some loop → slice_get (table ++ p ∷ []) k ≡ Some loop.place
entries_more code table p n size old here k loop low is =
    elim (cases_lt k n) [
      | inl less ↦ entry_old table p k (omega (arith, size, less)) ∙ old k loop less is
      | inr past ↦
          let same : k ≡ n = omega (arith, past, low) in
          entry_new table p k (omega (arith, same, size)) ∙ ap (λ (q : ℕ). Some q) (here loop (subst (λ (m : ℕ). loop_around code m ≡ Some loop) same is))
    ]

place_kept : (around : Option Enclosing) (p n : ℕ) (i : Instr) (rest : List Instr) (loop : Enclosing) → ((l : Enclosing) → around ≡ Some l → p ≡ l.place)
    → ((times every : ℕ) → i ≡ Loop times every → ⊥) → loop_behind around n i rest ≡ Some loop → p ≡ loop.place
place_kept around p n (Loop times every) rest loop known other is = absurd (other times every refl)
place_kept around p n EndLoop rest loop known other is = cc
place_kept around p n i rest loop known other is = known loop is

-- behind an instruction that begins no loop the place stays
pub place_more : (code : List Instr) (p n : ℕ) (i : Instr) → n < length code → i ≡ get_or code n i → ((times every : ℕ) → i ≡ Loop times every → ⊥) → ((loop : Enclosing) → loop_around code n ≡ Some loop → p ≡ loop.place)
    → (loop : Enclosing) → loop_around code (n + 1) ≡ Some loop → p ≡ loop.place
place_more code p n i low here other known loop is =
    let at = slice_get_read code (length code) n i refl low here in
    place_kept (loop_around code n) p n i (drop (n + 1) code) loop known other (sym (loop_next code n i at) ∙ is)

-- behind a loop's beginning it is the index of that
pub place_here : (code : List Instr) (n times every : ℕ) (i : Instr) → n < length code → i ≡ get_or code n i → i ≡ Loop times every → (loop : Enclosing) → loop_around code (n + 1) ≡ Some loop → n ≡ loop.place
place_here code n times every i low here begins loop is =
    let at = slice_get_read code (length code) n i refl low here in
    let h : loop_behind (loop_around code n) n (Loop times every) (drop (n + 1) code) ≡ Some loop = ap (λ (j : Instr). loop_behind (loop_around code n) n j (drop (n + 1) code)) (sym begins) ∙ sym (loop_next code n i at) ∙ is in
    cc
