-- What is known of an instruction that passes all checks.
use Rattle.std.proofs.Common.{◌≡◌, ℕ, ◌+◌, ◌<◌, ◌≤◌, ◌^◌, Bool, true, false, cond, List, [], ◌∷◌, ◌++◌, Option, Some, None, length, refl, arith}
use Rattle.std.proofs.lemmas.Bool.{leb-false, ltb-false, or_parts}
use Rattle.queue_code.specs.declared.fault.CodeFault.{CodeFault}
use Rattle.queue_code.specs.declared.call.CodeCall.{CodeCall}
use Rattle.queue_code.specs.declared.instr.Instr.{Instr}
use Rattle.queue_code.specs.declared.instr.Instr.TheVariants.{Submit, Illegal, CancelFixed, CancelHere, Loop, EndLoop, Halt}
use Rattle.queue_code.specs.declared.progress.Progress.{Progress}
use Rattle.queue_code.specs.Calls.{Planned, IsOrderlyCall, count_after}
use Rattle.queue_code.specs.Codes.{call_by, in_front, tasks_by}
use Rattle.queue_code.specs.Checks.{offset_of, makes_call, is_early_halt, first_failed, or_else, IsTimedInstr}
use Rattle.queue_code.specs.own.Walks.{last_shift, walk_after, walk_nested, walk_unclosed, walk_empty_loop, walk_lacks_task, walk_bad_task, walk_too_large, walk_out_of_order, walk_too_many, walk_checks, first_fault}

-- no check fails
pub record Passes (p : Progress) (i : Instr) (rest : List Instr) : Type 0 where
  pub early : is_early_halt i rest ≡ false
  pub nested : walk_nested p i ≡ false
  pub unclosed : walk_unclosed p i ≡ false
  pub empty : walk_empty_loop p i ≡ false
  pub task : walk_bad_task p i ≡ false
  pub large : walk_too_large p i ≡ false
  pub order : walk_out_of_order p i ≡ false
  pub many : walk_too_many p i ≡ false

not_failing : (test : Bool) (fault : CodeFault) (later : Option CodeFault) → cond test (Some fault) later ≡ None → (test ≡ false) × (later ≡ None)
not_failing true fault later none = cc
not_failing false fault later none = (refl, none)

-- where the table gives no fault each check passes
pub passes_all : (p : Progress) (i : Instr) (rest : List Instr) → first_failed (walk_checks p i rest) ≡ None → Passes p i rest
passes_all p i rest none =
    let early = not_failing (is_early_halt i rest) _ _ none in
    let nested = not_failing (walk_nested p i) _ _ early.1 in
    let unclosed = not_failing (walk_unclosed p i) _ _ nested.1 in
    let empty = not_failing (walk_empty_loop p i) _ _ unclosed.1 in
    let task = not_failing (walk_bad_task p i) _ _ empty.1 in
    let large = not_failing (walk_too_large p i) _ _ task.1 in
    let order = not_failing (walk_out_of_order p i) _ _ large.1 in
    let many = not_failing (walk_too_many p i) _ _ order.1 in
    record { early = early.0; nested = nested.0; unclosed = unclosed.0; empty = empty.0; task = task.0; large = large.0; order = order.0; many = many.0 }

-- where the first of two faults is none, neither is one
pub neither : (a b : Option CodeFault) → or_else a b ≡ None → (a ≡ None) × (b ≡ None)
neither None b none = (refl, none)
neither (Some fault) b none = cc

-- where instructions have no fault the first one passes, and those behind it have none
pub passes_first : (p : Progress) (i : Instr) (rest : List Instr) → or_else (first_failed (walk_checks p i rest)) (first_fault (walk_after p i) rest) ≡ None → Passes p i rest × (first_fault (walk_after p i) rest ≡ None)
passes_first p i rest none = let both = neither (first_failed (walk_checks p i rest)) (first_fault (walk_after p i) rest) none in (passes_all p i rest both.0, both.1)

-- what an instruction makes that makes a call, and that it is in order
pub record Called (i : Instr) (base start count : ℕ) : Type 0 where
  pub what : CodeCall
  pub is : call_by base start count i ≡ Some (base + offset_of i, what)
  pub next : count_after count what ≡ count + tasks_by i
  pub orderly : IsOrderlyCall count what

-- an instruction that passes its checks makes a call that is in order
pub called : (p : Progress) (i : Instr) (base start count : ℕ) → makes_call i ≡ true → IsTimedInstr i → walk_bad_task p i ≡ false → walk_too_large p i ≡ false → p.tasks ≤ count
    → ((nth : ℕ) → walk_lacks_task p p.open_loop nth ≡ false → start + nth < count) → Called i base start count
called p (Loop times every) base start count call timed task large low here = cc
called p EndLoop base start count call timed task large low here = cc
called p Halt base start count call timed task large low here = cc
called p (Submit offset timing delay) base start count call timed task large low here = record { what = _; is = refl; next = refl; orderly = (refl, ltb-false (2 ^ 62) delay (or_parts _ _ large).0, timed) }
called p (Illegal offset) base start count call timed task large low here = record { what = _; is = refl; next = refl; orderly = refl }
called p (CancelFixed offset k) base start count call timed task large low here = record { what = _; is = refl; next = omega arith; orderly = omega (arith, leb-false p.tasks k task, low) }
called p (CancelHere offset nth) base start count call timed task large low here = record { what = _; is = refl; next = omega arith; orderly = here nth task }
called p i base start count call timed task large low here = record { what = _; is = refl; next = omega arith; orderly = tt }

-- a call is made within the limit in each iteration
pub moment_low : (p : Progress) (i : Instr) → makes_call i ≡ true → walk_too_large p i ≡ false → last_shift p.open_loop + offset_of i ≤ 2 ^ 62
moment_low p (Loop times every) call large = cc
moment_low p EndLoop call large = cc
moment_low p Halt call large = cc
moment_low p (Submit offset timing delay) call large = ltb-false _ _ (or_parts _ _ large).1
moment_low p i call large = ltb-false _ _ large

-- a call is not made before the one in front of it
pub not_before : (p : Progress) (i : Instr) → makes_call i ≡ true → walk_out_of_order p i ≡ false → p.last ≤ offset_of i
not_before p (Loop times every) call order = cc
not_before p EndLoop call order = cc
not_before p Halt call order = cc
not_before p i call order = ltb-false _ _ order

-- an instruction that makes a call makes one
pub length_call : (i : Instr) (base start count : ℕ) (rest : List Planned) → makes_call i ≡ true → length (in_front (call_by base start count i) rest) ≡ length rest + 1
length_call (Loop times every) base start count rest call = cc
length_call EndLoop base start count rest call = cc
length_call Halt base start count rest call = cc
length_call i base start count rest call = omega arith

-- calls in front of a list of calls
pub in_front_append : (made : Option Planned) (xs ys : List Planned) → in_front made xs ++ ys ≡ in_front made (xs ++ ys)
in_front_append None xs ys = refl
in_front_append (Some p) xs ys = refl

-- nothing stands behind a halt
pub last_halt : (rest : List Instr) → is_early_halt Halt rest ≡ false → rest ≡ []
last_halt [] early = refl
last_halt (i ∷ rest) early = cc
