-- The numbers of a check stay within their bounds, and the fault of the rest is that of the whole.
use Rattle.std.proofs.Common.{◌≡◌, ℕ, zero, suc, ◌+◌, ◌*◌, ◌-◌, ◌<◌, ◌≤◌, ◌^◌, true, cond, eqb, ltb, List, ◌∷◌, Option, Some, None, inl, inr, length, drop, get_or, refl, sym, ap, subst, ◌∙◌, arith}
use Rattle.std.proofs.lemmas.Bool.{ltb-false, eqb-false, or_parts, cases_Bool}
use Rattle.std.proofs.lemmas.List.{drop_more}
use Rattle.std.proofs.Math.Nat.{mul-le-mul_right, mul-le-mul_left}
use Rattle.queue_code.specs.declared.fault.CodeFault.{CodeFault}
use Rattle.queue_code.specs.declared.instr.Instr.{Instr}
use Rattle.queue_code.specs.declared.instr.Instr.TheVariants.{Loop, EndLoop, Halt}
use Rattle.queue_code.specs.declared.progress.OpenLoop.{OpenLoop}
use Rattle.queue_code.specs.declared.progress.Progress.{Progress}
use Rattle.queue_code.specs.Codes.{tasks_by}
use Rattle.queue_code.specs.Checks.{offset_of, makes_call, first_failed, IsTimedInstr, AreTimed}
use Rattle.queue_code.specs.own.Walks.{walk_after, walk_checks, first_fault, walked}
use Rattle.queue_code.specs.own.Sizes.{IsBounded, IsLoopBounded}
use Rattle.queue_code.proofs.Passing.{Passes, passes_all, moment_low}
use Rattle.queue_code.proofs.Making.{one_task}

not_zero : (n : ℕ) → (n ≡ 0 → ⊥) → 1 ≤ n
not_zero zero some = absurd (some refl)
not_zero (suc n) some = omega arith

first_low : (n a b : ℕ) → a < 2 ^ 64 → b < 2 ^ 64 → cond (eqb n 0) a b < 2 ^ 64
first_low n a b low_a low_b = elim (cases_Bool (eqb n 0)) [ inl is ↦ rw is low_a | inr isnt ↦ rw isnt low_b ]

last_low : (times every last : ℕ) → times ≤ 65536 → every < 2 ^ 64 → last < 2 ^ 64 → (times - 1) * every + last < 2 ^ 100
last_low times every last few step low =
    let a : (times - 1) * every ≤ 65536 * every = mul-le-mul_right every (omega (arith, few)) in
    omega (arith, a, step, low)

offset_low : (p : Progress) (i : Instr) (rest : List Instr) → makes_call i ≡ true → Passes p i rest → offset_of i < 2 ^ 64
offset_low p i rest call fine = omega (arith, moment_low p i call fine.large)

bounded_inside : (n : ℕ) (r : OpenLoop) (calls tasks last made offset : ℕ) → made ≤ 1 → offset < 2 ^ 64 → IsLoopBounded n (record { open_loop = Some r; calls = calls; tasks = tasks; last = last }) (Some r) → calls ≤ 65536
    → IsBounded (n + 1) (record { open_loop = Some (record r { calls = r.calls + 1; first = cond (eqb r.calls 0) offset r.first }); calls = calls; tasks = tasks + made; last = offset })
bounded_inside n r calls tasks last made offset one low h few = record {
  calls = few;
  last = omega (arith, low);
  open_loop = (h.0, h.1, first_low r.calls offset r.first low h.2, h.3, omega (arith, h.4), omega (arith, h.5), omega (arith, h.6, one), λ e. low);
}

bounded_after : (open_loop : Option OpenLoop) (calls tasks last n : ℕ) (i : Instr) (rest : List Instr) → IsBounded n (record { open_loop = open_loop; calls = calls; tasks = tasks; last = last }) → Passes (record { open_loop = open_loop; calls = calls; tasks = tasks; last = last }) i rest
    → IsBounded (n + 1) (walk_after (record { open_loop = open_loop; calls = calls; tasks = tasks; last = last }) i)
bounded_after None calls tasks last n (Loop times every) rest h fine =
    let many = or_parts (ltb times 1) (ltb 65536 times) fine.many in
    let large = ltb-false (2 ^ 62) every fine.large in
    record { calls = h.calls; last = h.last; open_loop = (ltb-false 65536 times many.1, omega (arith, large), omega arith, h.open_loop, omega arith, omega arith, omega arith, λ e. absurd (omega (arith, e))) }
bounded_after (Some r) calls tasks last n (Loop times every) rest h fine = let e = fine.nested in cc
bounded_after None calls tasks last n EndLoop rest h fine = let e = fine.unclosed in cc
bounded_after (Some r) calls tasks last n EndLoop rest h fine =
    let few = ltb-false 65536 (calls + r.times * r.calls) fine.many in
    let some : 1 ≤ r.calls = not_zero r.calls (eqb-false r.calls 0 fine.empty) in
    let b : r.times * (tasks - r.start) ≤ r.times * r.calls = mul-le-mul_left r.times (omega (arith, h.open_loop.6)) in
    record { calls = few; last = last_low r.times r.every last h.open_loop.0 h.open_loop.1 (h.open_loop.7 some); open_loop = omega (arith, b, h.open_loop.3) }
bounded_after None calls tasks last n Halt rest h fine = record { calls = h.calls; last = h.last; open_loop = h.open_loop }
bounded_after (Some r) calls tasks last n Halt rest h fine = let e = fine.unclosed in cc
bounded_after None calls tasks last n i rest h fine =
    let few = ltb-false 65536 (calls + 1) fine.many in
    let low = offset_low (record { open_loop = None; calls = calls; tasks = tasks; last = last }) i rest refl fine in
    record { calls = few; last = omega (arith, low); open_loop = omega (arith, h.open_loop, one_task i) }
bounded_after (Some r) calls tasks last n i rest h fine =
    bounded_inside n r calls tasks last (tasks_by i) (offset_of i) (one_task i) (offset_low (record { open_loop = Some r; calls = calls; tasks = tasks; last = last }) i rest refl fine) h.open_loop h.calls

-- one instruction more, which passes
pub bounded_more : (p : Progress) (n : ℕ) (i : Instr) (rest : List Instr) → IsBounded n p → first_failed (walk_checks p i rest) ≡ None → IsBounded (n + 1) (walk_after p i)
bounded_more p n i rest h none = bounded_after p.open_loop p.calls p.tasks p.last n i rest h (passes_all p i rest none)

fault_behind : (p : Progress) (i : Instr) (rest : List Instr) → (i ≡ Halt → ⊥) → first_failed (walk_checks p i rest) ≡ None → first_fault p (i ∷ rest) ≡ first_fault (walk_after p i) rest
fault_behind p Halt rest other none = absurd (other refl)
fault_behind p i rest other none = rw none refl

first_left : (instrs : List Instr) (n : ℕ) (i : Instr) → n < length instrs → i ≡ get_or instrs n i → drop n instrs ≡ i ∷ drop (n + 1) instrs
first_left instrs n i low is = drop_more instrs n i low ∙ ap (λ (j : Instr). j ∷ drop (n + 1) instrs) (sym is)

-- the fault of the rest, behind an instruction that passes
pub fault_more : (p : Progress) (instrs : List Instr) (n : ℕ) (i : Instr) (whole : Option CodeFault) → n < length instrs → i ≡ get_or instrs n i → (i ≡ Halt → ⊥) → first_failed (walk_checks p i (drop (n + 1) instrs)) ≡ None
    → first_fault p (drop n instrs) ≡ whole → first_fault (walk_after p i) (drop (n + 1) instrs) ≡ whole
fault_more p instrs n i whole low is other none known =
    sym (fault_behind p i (drop (n + 1) instrs) other none) ∙ ap (first_fault p) (sym (first_left instrs n i low is)) ∙ known

walked_behind : (p : Progress) (i : Instr) (rest : List Instr) → (i ≡ Halt → ⊥) → walked p (i ∷ rest) ≡ walked (walk_after p i) rest
walked_behind p Halt rest other = absurd (other refl)
walked_behind p i rest other = refl

-- what is met in the end
pub walked_more : (p : Progress) (instrs : List Instr) (n : ℕ) (i : Instr) (whole : Progress) → n < length instrs → i ≡ get_or instrs n i → (i ≡ Halt → ⊥) → walked p (drop n instrs) ≡ whole → walked (walk_after p i) (drop (n + 1) instrs) ≡ whole
walked_more p instrs n i whole low is other known = sym (walked_behind p i (drop (n + 1) instrs) other) ∙ ap (walked p) (sym (first_left instrs n i low is)) ∙ known

-- the timings of all, from those of the rest
pub timed_more : (instrs : List Instr) (n : ℕ) (i : Instr) → n < length instrs → i ≡ get_or instrs n i → IsTimedInstr i → (AreTimed (drop n instrs) → AreTimed instrs) → AreTimed (drop (n + 1) instrs) → AreTimed instrs
timed_more instrs n i low is timed known rest = known (subst AreTimed (sym (first_left instrs n i low is)) (timed, rest))
