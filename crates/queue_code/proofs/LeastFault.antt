-- The fault of a list of instructions is that of the least index at which a check fails.
use Rattle.std.proofs.Common.{◌≡◌, ℕ, zero, suc, ◌+◌, ◌<◌, ◌≤◌, List, Option, Some, None, inl, inr, length, refl, sym, ap, ◌∙◌, arith}
use Rattle.std.specs.List.{range_with_len}
use Rattle.std.proofs.lemmas.Bool.{cases_lt}
use Rattle.queue_code.specs.declared.fault.CodeFault.{CodeFault}
use Rattle.queue_code.specs.declared.instr.Instr.{Instr}
use Rattle.queue_code.specs.Checks.{fault_at, or_else, fault_among}
use Rattle.queue_code.specs.CodeLaws.{LeastIndex, NothingWrong}
use Rattle.queue_code.proofs.Passing.{neither}

-- a fault among the indexes from n on, and none before it
abbrev Found : List Instr → ℕ → CodeFault → Type 0
Found code n e = (index : ℕ) × (fault_at code index ≡ Some e) × ((earlier : ℕ) → n ≤ earlier → earlier < index → fault_at code earlier ≡ None)

found_here : (code : List Instr) (n : ℕ) (e : CodeFault) → fault_at code n ≡ Some e → Found code n e
found_here code n e fails = (n, fails, λ m least low. absurd (omega (arith, least, low)))

none_between : (code : List Instr) (n m : ℕ) (last : ℕ) → fault_at code n ≡ None → ((k : ℕ) → n + 1 ≤ k → k < last → fault_at code k ≡ None) → n ≤ m → m < last → fault_at code m ≡ None
none_between code n m last none later least low =
    elim (cases_lt n m) [
      | inl more ↦ later m (omega (arith, more)) low
      | inr past ↦ (let same : n ≡ m = omega (arith, past, least) in ap (fault_at code) (sym same) ∙ none)
    ]

found_behind : (code : List Instr) (n : ℕ) (e : CodeFault) → fault_at code n ≡ None → Found code (n + 1) e → Found code n e
found_behind code n e none found = (found.0, found.1, λ m least low. none_between code n m found.0 none found.2 least low)

found_either : (code : List Instr) (n : ℕ) (e : CodeFault) (here : Option CodeFault) (later : Option CodeFault) → fault_at code n ≡ here → (later ≡ Some e → Found code (n + 1) e) → or_else here later ≡ Some e → Found code n e
found_either code n e None later at behind fault = found_behind code n e at (behind fault)
found_either code n e (Some first) later at behind fault = found_here code n e (at ∙ fault)

found : (code : List Instr) (n k : ℕ) (e : CodeFault) → fault_among code (range_with_len n k) ≡ Some e → Found code n e
found code n zero e fault = cc
found code n (suc k) e fault = found_either code n e (fault_at code n) (fault_among code (range_with_len (n + 1) k)) refl (found code (n + 1) k e) fault

nothing : (code : List Instr) (n k : ℕ) → fault_among code (range_with_len n k) ≡ None → (m : ℕ) → n ≤ m → m < n + k → fault_at code m ≡ None
nothing code n zero none m least low = absurd (omega (arith, least, low))
nothing code n (suc k) none m least low =
    let both = neither (fault_at code n) (fault_among code (range_with_len (n + 1) k)) none in
    none_between code n m (n + suc k) both.0 (λ j more less. nothing code (n + 1) k both.1 j more (omega (arith, less))) least low

-- the fault stands at some index, and nothing is wrong before it
pub least_index : LeastIndex
least_index code e fault =
    let least = found code 0 (length code + 1) e fault in
    (least.0, least.1, λ m low. least.2 m (omega arith) low)

-- where there is no fault nothing is wrong at any index
pub nothing_wrong : NothingWrong
nothing_wrong code none index low = nothing code 0 (length code + 1) none index (omega arith) (omega (arith, low))
