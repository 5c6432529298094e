-- The checks of an instruction by what was met are those of the definitions.
use Rattle.std.proofs.Common.{◌≡◌, ℕ, zero, suc, ◌+◌, ◌-◌, ◌≤◌, Bool, true, false, cond, eqb, leb, ltb, ◌&&◌, List, [], ◌∷◌, ◌++◌, Option, Some, None, length, refl, sym, ap, ◌∙◌, arith, append-nil}
use Rattle.std.proofs.lemmas.Bool.{le-ltb}
use Rattle.queue_code.specs.declared.fault.CodeFault.{CodeFault}
use Rattle.queue_code.specs.declared.fault.CodeFault.TheVariants as fault
use Rattle.queue_code.specs.declared.instr.Instr.{Instr}
use Rattle.queue_code.specs.declared.instr.Instr.TheVariants.{CancelFixed, CancelHere, Loop, EndLoop, Halt}
use Rattle.queue_code.specs.declared.progress.OpenLoop.{OpenLoop}
use Rattle.queue_code.specs.declared.progress.Progress.{Progress}
use Rattle.queue_code.specs.Calls.{Planned, task_count}
use Rattle.queue_code.specs.Codes.{tasks_by, pass, calls_of}
use Rattle.queue_code.specs.Checks.{Begun, open_loop, calls_inside, first_call_moment, last_from, last_call_moment, offset_of, makes_call, is_early_halt, is_nested, is_unclosed, is_empty_loop, is_bad_task, is_too_large, is_out_of_order, is_too_many, checks_with, checks, first_failed}
use Rattle.queue_code.specs.own.Walks as walks
use Rattle.queue_code.proofs.Totals.{AreCalls, tasks_pass, length_pass, tasks_append, last_append, last_call}
use Rattle.queue_code.proofs.ClosedLoops.{open_none, begun, open_some}
use Rattle.queue_code.proofs.MetInFront.{Outside, Inside, met, length_next, open_calls, length_whole}

record Alike (front : List Instr) (loop : Option Begun) (p : Progress) (i : Instr) : Type 0 where
  nested : walks.walk_nested p i ≡ is_nested loop i
  unclosed : walks.walk_unclosed p i ≡ is_unclosed loop i
  empty : walks.walk_empty_loop p i ≡ is_empty_loop loop i
  task : walks.walk_bad_task p i ≡ is_bad_task front loop i
  large : walks.walk_too_large p i ≡ is_too_large loop i
  order : is_empty_loop loop i ≡ false → walks.walk_out_of_order p i ≡ is_out_of_order front loop i
  many : walks.walk_too_many p i ≡ is_too_many front loop i

-- a choice between faults, where the first test decides whether the second matters
either_order : (empty task large : Bool) (order other many : Bool) → (empty ≡ false → order ≡ other)
    → first_failed ((fault.Empty, empty) ∷ (fault.BadTask, task) ∷ (fault.TooLarge, large) ∷ (fault.Order, order) ∷ (fault.TooMany, many) ∷ [])
    ≡ first_failed ((fault.Empty, empty) ∷ (fault.BadTask, task) ∷ (fault.TooLarge, large) ∷ (fault.Order, other) ∷ (fault.TooMany, many) ∷ [])
either_order true task large order other many same = refl
either_order false task large order other many same = rw (same refl) refl

alike_fails : (front : List Instr) (loop : Option Begun) (p : Progress) (i : Instr) (rest : List Instr) → Alike front loop p i → first_failed (walks.walk_checks p i rest) ≡ first_failed (checks_with front loop i rest)
alike_fails front loop p i rest a =
    rw (a.nested, a.unclosed, a.empty, a.task, a.large, a.many)
    (ap (λ (o : Option CodeFault). cond (is_early_halt i rest) (Some fault.NoHalt) (cond (is_nested loop i) (Some fault.Nested) (cond (is_unclosed loop i) (Some fault.Unclosed) o)))
    (either_order (is_empty_loop loop i) (is_bad_task front loop i) (is_too_large loop i) (walks.walk_out_of_order p i) (is_out_of_order front loop i) (is_too_many front loop i) a.order))

few_next : (front : List Instr) (i : Instr) (calls tasks last : ℕ) → Outside front calls tasks last → makes_call i ≡ true → ltb 65536 (calls + 1) ≡ ltb 65536 (length (calls_of (front ++ i ∷ [])))
few_next front i calls tasks last o call = let e : calls + 1 ≡ length (calls_of (front ++ i ∷ [])) = omega (arith, o.calls_is, length_next front i o.closed call) in ap (ltb 65536) e

alike_outside : (front : List Instr) (i : Instr) (calls tasks last : ℕ) → Outside front calls tasks last → Alike front None (met None calls tasks last) i
alike_outside front (Loop times every) calls tasks last o = record { nested = refl; unclosed = refl; empty = refl; task = refl; large = refl; order = λ e. refl; many = refl }
alike_outside front EndLoop calls tasks last o = record { nested = refl; unclosed = refl; empty = refl; task = refl; large = refl; order = λ e. refl; many = ap (ltb 65536) o.calls_is }
alike_outside front Halt calls tasks last o = record { nested = refl; unclosed = refl; empty = refl; task = refl; large = refl; order = λ e. refl; many = refl }
alike_outside front (CancelFixed offset k) calls tasks last o = record { nested = refl; unclosed = refl; empty = refl; task = ap (λ (n : ℕ). leb n k) o.tasks_is; large = refl; order = λ e. ap (ltb offset) o.last_is; many = few_next front (CancelFixed offset k) calls tasks last o refl }
alike_outside front i calls tasks last o = record { nested = refl; unclosed = refl; empty = refl; task = refl; large = refl; order = λ e. ap (ltb (offset_of i)) o.last_is; many = few_next front i calls tasks last o refl }

-- the loop that is open in front
abbrev loop_of : (front : List Instr) (r : OpenLoop) (calls tasks last : ℕ) → Inside front r calls tasks last → Begun
loop_of front r calls tasks last o = begun o.before r.times r.every o.body

inside_calls : (front : List Instr) (r : OpenLoop) (calls tasks last : ℕ) (o : Inside front r calls tasks last) → pass 0 r.start r.start o.body ≡ calls_inside (loop_of front r calls tasks last o)
inside_calls front r calls tasks last o = ap (λ (n : ℕ). pass 0 n n o.body) o.start_is

inside_tasks : (front : List Instr) (r : OpenLoop) (calls tasks last : ℕ) (o : Inside front r calls tasks last) → tasks - r.start ≡ task_count (calls_inside (loop_of front r calls tasks last o))
inside_tasks front r calls tasks last o =
    omega (
      arith,
      ap task_count (inside_calls front r calls tasks last o),
      ap task_count (sym (append-nil (pass 0 r.start r.start o.body))),
      tasks_pass 0 r.start r.start o.body [],
      o.tasks_is,
    )

all_tasks : (front : List Instr) (r : OpenLoop) (calls tasks last : ℕ) (o : Inside front r calls tasks last) → tasks ≡ task_count (calls_of o.before ++ calls_inside (loop_of front r calls tasks last o))
all_tasks front r calls tasks last o =
    let here = calls_inside (loop_of front r calls tasks last o) in
    omega (arith, tasks_append (calls_of o.before) here, inside_tasks front r calls tasks last o, o.tasks_is, o.start_is)

last_before : (front : List Instr) (r : OpenLoop) (calls tasks last : ℕ) (o : Inside front r calls tasks last) → last ≡ last_call_moment (calls_of o.before ++ calls_inside (loop_of front r calls tasks last o))
last_before front r calls tasks last o = o.last_is ∙ ap (λ (ps : List Planned). last_call_moment (calls_of o.before ++ ps)) (inside_calls front r calls tasks last o)

last_any : (m k start count : ℕ) (body : List Instr) → AreCalls body → 1 ≤ length body → last_from m (pass 0 start count body) ≡ last_from k (pass 0 start count body)
last_any m k start count [] calls some = absurd (omega (arith, some))
last_any m k start count (i ∷ body) calls some = last_call m 0 start count i (pass 0 start (count + tasks_by i) body) calls.0 ∙ sym (last_call k 0 start count i (pass 0 start (count + tasks_by i) body) calls.0)

last_inside : (front : List Instr) (r : OpenLoop) (calls tasks last : ℕ) (o : Inside front r calls tasks last) → 1 ≤ length o.body → last ≡ last_call_moment (calls_inside (loop_of front r calls tasks last o))
last_inside front r calls tasks last o some =
    o.last_is ∙ last_append 0 (calls_of o.before) (pass 0 r.start r.start o.body) ∙ last_any (last_call_moment (calls_of o.before)) 0 r.start r.start o.body o.plain some
    ∙ ap last_call_moment (inside_calls front r calls tasks last o)

made_inside : (front : List Instr) (r : OpenLoop) (calls tasks last : ℕ) (o : Inside front r calls tasks last) → r.calls ≡ length (calls_inside (loop_of front r calls tasks last o))
made_inside front r calls tasks last o = o.made_is ∙ sym (length_pass 0 (task_count (calls_of o.before)) (task_count (calls_of o.before)) o.body o.plain)

-- a loop that is not empty has a call
pub some_made : (n : ℕ) → eqb n 0 ≡ false → 1 ≤ n
some_made zero e = cc
some_made (suc n) e = omega arith

overlaps_is : (front : List Instr) (r : OpenLoop) (calls tasks last : ℕ) (o : Inside front r calls tasks last) → eqb (length (calls_inside (loop_of front r calls tasks last o))) 0 ≡ false
    → (ltb 1 r.times && ltb (r.first + r.every) last)
    ≡ (ltb 1 r.times && ltb (first_call_moment (calls_inside (loop_of front r calls tasks last o)) + r.every) (last_call_moment (calls_inside (loop_of front r calls tasks last o))))
overlaps_is front r calls tasks last o some =
    let loop = loop_of front r calls tasks last o in
    let size : 1 ≤ length o.body = omega (arith, some_made (length (calls_inside loop)) some, made_inside front r calls tasks last o, o.made_is) in
    let first : r.first ≡ first_call_moment (calls_inside loop) = o.first_is ∙ ap first_call_moment (inside_calls front r calls tasks last o) in
    ap (λ (n : ℕ). ltb 1 r.times && ltb (n + r.every) last) first
    ∙ ap (λ (n : ℕ). ltb 1 r.times && ltb (first_call_moment (calls_inside loop) + r.every) n) (last_inside front r calls tasks last o size)

alike_inside : (front : List Instr) (r : OpenLoop) (i : Instr) (calls tasks last : ℕ) (o : Inside front r calls tasks last) → Alike front (Some (loop_of front r calls tasks last o)) (met (Some r) calls tasks last) i
alike_inside front r (Loop times every) calls tasks last o = record { nested = refl; unclosed = refl; empty = refl; task = refl; large = refl; order = λ e. refl; many = refl }
alike_inside front r EndLoop calls tasks last o = record {
  nested = refl;
  unclosed = refl;
  empty = ap (λ (n : ℕ). eqb n 0) (made_inside front r calls tasks last o);
  task = refl;
  large = refl;
  order = overlaps_is front r calls tasks last o;
  many = ap (ltb 65536) (sym (ap length (open_calls front r calls tasks last o) ∙ length_whole front r calls tasks last o));
}
alike_inside front r Halt calls tasks last o = record { nested = refl; unclosed = refl; empty = refl; task = refl; large = refl; order = λ e. refl; many = refl }
alike_inside front r (CancelFixed offset k) calls tasks last o = record { nested = refl; unclosed = refl; empty = refl; task = ap (λ (n : ℕ). leb n k) (all_tasks front r calls tasks last o); large = refl; order = λ e. ap (ltb offset) (last_before front r calls tasks last o); many = le-ltb 65536 calls o.few }
alike_inside front r (CancelHere offset nth) calls tasks last o = record { nested = refl; unclosed = refl; empty = refl; task = ap (λ (n : ℕ). leb n nth) (inside_tasks front r calls tasks last o); large = refl; order = λ e. ap (ltb offset) (last_before front r calls tasks last o); many = le-ltb 65536 calls o.few }
alike_inside front r i calls tasks last o = record { nested = refl; unclosed = refl; empty = refl; task = refl; large = refl; order = λ e. ap (ltb (offset_of i)) (last_before front r calls tasks last o); many = le-ltb 65536 calls o.few }

-- outside loops the first check that fails is that of the definitions
pub fails_outside : (front : List Instr) (i : Instr) (rest : List Instr) (calls tasks last : ℕ) → Outside front calls tasks last → first_failed (walks.walk_checks (met None calls tasks last) i rest) ≡ first_failed (checks front i rest)
fails_outside front i rest calls tasks last o =
    alike_fails front None (met None calls tasks last) i rest (alike_outside front i calls tasks last o)
    ∙ ap (λ (loop : Option Begun). first_failed (checks_with front loop i rest)) (sym (open_none false front o.closed))

-- and in a loop
pub fails_inside : (front : List Instr) (r : OpenLoop) (i : Instr) (rest : List Instr) (calls tasks last : ℕ) → Inside front r calls tasks last → first_failed (walks.walk_checks (met (Some r) calls tasks last) i rest) ≡ first_failed (checks front i rest)
fails_inside front r i rest calls tasks last o =
    alike_fails front (Some (loop_of front r calls tasks last o)) (met (Some r) calls tasks last) i rest (alike_inside front r i calls tasks last o)
    ∙ ap (λ (loop : Option Begun). first_failed (checks_with front loop i rest)) (sym (ap open_loop o.is ∙ open_some false o.before r.times r.every o.body o.closed o.plain))
