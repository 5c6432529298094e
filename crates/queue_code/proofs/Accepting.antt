-- A list of instructions without a fault, from the checks of each of them.
use Rattle.std.proofs.Common.{◌≡◌, ℕ, ◌+◌, ◌*◌, ◌<◌, ◌≤◌, ◌^◌, Bool, true, false, eqb, ltb, leb, ◌&&◌, List, ◌∷◌, Option, Some, None, refl, ap, ◌∙◌, arith}
use Rattle.std.proofs.lemmas.Bool.{le-ltb, or_from}
use Rattle.std.proofs.lemmas.Bool.Decides.{nat_tests}
use Rattle.queue_code.specs.declared.progress.Progress.{Progress}
use Rattle.queue_code.specs.declared.fault.CodeFault.{CodeFault}
use Rattle.queue_code.specs.declared.instr.Instr.{Instr}
use Rattle.queue_code.specs.declared.instr.Instr.TheVariants.{Loop, EndLoop}
use Rattle.queue_code.specs.Checks.{first_failed, or_else}
use Rattle.queue_code.specs.own.Walks.{walk_checks, after_loop, first_fault}
use Rattle.queue_code.proofs.Passing.{Passes}

-- what a check has met, for the crates above
abbrev pub Met : Type 0
Met = Progress

-- where all checks pass none fails
pub none_fails : (p : Met) (i : Instr) (rest : List Instr) → Passes p i rest → first_failed (walk_checks p i rest) ≡ None
none_fails p i rest h = rw (h.early, h.nested, h.unclosed, h.empty, h.task, h.large, h.order, h.many) refl

-- outside loops
abbrev pub met_out : ℕ → ℕ → ℕ → Met
met_out calls tasks last = record { open_loop = None; calls = calls; tasks = tasks; last = last }

-- in a loop that begins after `start` tasks and has had `made` calls, the first of them at `first`
abbrev pub met_in : (times every start made first calls tasks last : ℕ) → Met
met_in times every start made first calls tasks last =
    record { open_loop = Some (record { times = times; every = every; start = start; calls = made; first = first }); calls = calls; tasks = tasks; last = last }

-- the beginning of a loop, in front of instructions without a fault
pub loop_begins : (times every calls tasks last : ℕ) (is : List Instr) → 1 ≤ times → times ≤ 65536 → every ≤ 2 ^ 62
    → first_fault (met_in times every tasks 0 0 calls tasks last) is ≡ None → first_fault (met_out calls tasks last) (Loop times every ∷ is) ≡ None
loop_begins times every calls tasks last is least most short behind =
    let passes : Passes (met_out calls tasks last) (Loop times every) is = record { early = refl; nested = refl; unclosed = refl; empty = refl; task = refl; large = le-ltb _ _ short; order = refl; many = or_from _ _ (le-ltb _ _ least) (le-ltb _ _ most) } in
    ap (λ (o : Option CodeFault). or_else o (first_fault (met_in times every tasks 0 0 calls tasks last) is)) (none_fails (met_out calls tasks last) (Loop times every) is passes) ∙ behind

some_not : (n : ℕ) → 1 ≤ n → eqb n 0 ≡ false
some_not n h = grind (arith, nat_tests)

and_not : (x y : Bool) → y ≡ false → (x && y) ≡ false
and_not true y h = h
and_not false y h = refl

-- the end of a loop, in front of instructions without a fault
pub loop_ends : (times every start made first calls tasks last : ℕ) (is : List Instr) → 1 ≤ made → last ≤ first + every → calls + times * made ≤ 65536
    → first_fault (after_loop (met_in times every start made first calls tasks last) (met_in times every start made first calls tasks last).open_loop) is ≡ None
    → first_fault (met_in times every start made first calls tasks last) (EndLoop ∷ is) ≡ None
loop_ends times every start made first calls tasks last is some low few behind =
    let p = met_in times every start made first calls tasks last in
    let passes : Passes p EndLoop is = record {
      early = refl;
      nested = refl;
      unclosed = refl;
      empty = some_not made some;
      task = refl;
      large = refl;
      order = and_not (ltb 1 times) (ltb (first + every) last) (le-ltb (first + every) last low);
      many = le-ltb 65536 (calls + times * made) few;
    } in
    ap (λ (o : Option CodeFault). or_else o (first_fault (after_loop p p.open_loop) is)) (none_fails p EndLoop is passes) ∙ behind

-- a number that is not reached
pub leb_not : (a b : ℕ) → b < a → leb a b ≡ false
leb_not a b h = grind (arith, nat_tests)
