-- A check that meets no fault counts the calls and the tasks of the code.
use Rattle.std.proofs.Common.{◌≡◌, ℕ, suc, ◌+◌, ◌*◌, ◌-◌, ◌≤◌, Bool, true, false, cond, eqb, List, [], ◌∷◌, Option, Some, None, length, refl, sym, ap, subst, ◌∙◌, arith, length-append}
use Rattle.queue_code.specs.declared.call.CodeCall.TheVariants as call
use Rattle.queue_code.specs.declared.instr.Instr.{Instr}
use Rattle.queue_code.specs.declared.instr.Instr.TheVariants.{Loop, EndLoop, Halt}
use Rattle.queue_code.specs.declared.progress.OpenLoop.{OpenLoop}
use Rattle.queue_code.specs.declared.progress.Progress.{Progress}
use Rattle.queue_code.specs.Calls.{Planned, task_count}
use Rattle.queue_code.specs.Codes.{tasks_by, tasks_in, iterations, body_of, calls_from, calls_of}
use Rattle.queue_code.specs.Checks.{offset_of, code_fault, AreTimed}
use Rattle.queue_code.specs.own.Walks.{walk_opening, first_fault, walked}
use Rattle.queue_code.specs.own.Cursors.{IsCode}
use Rattle.queue_code.proofs.Passing.{passes_all, passes_first, length_call}
use Rattle.queue_code.proofs.Totals.{AreCalls, tasks_call, tasks_turns, length_turns}
use Rattle.queue_code.proofs.Faults.{fault_is}
use Rattle.queue_code.proofs.Soundness.{sound, met_in, met_out}

-- in the end there are the calls and the tasks so far, and those of the instructions
abbrev Counts : Bool → ℕ → ℕ → Progress → List Instr → Type 0
Counts inside calls tasks end is = (end.calls ≡ calls + length (calls_from inside tasks is)) × (end.tasks ≡ tasks + task_count (calls_from inside tasks is))

abbrev Goal : Option OpenLoop → ℕ → ℕ → Progress → List Instr → Type 0
Goal None calls tasks end is = Counts false calls tasks end is
Goal (Some r) calls tasks end is = AreCalls (body_of is) × Counts true (calls + r.times * (r.calls + length (body_of is))) (r.start + r.times * (tasks + tasks_in (body_of is) - r.start)) end is

from_equal : (inside : Bool) (a b c d : ℕ) (end : Progress) (is : List Instr) → a ≡ b → c ≡ d → Counts inside a c end is → Counts inside b d end is
from_equal inside a b c d end is e f h = subst (λ (n : ℕ). Counts inside n d end is) e (subst (λ (n : ℕ). Counts inside a n end is) f h)

counted : (open_loop : Option OpenLoop) (calls tasks last : ℕ) (is : List Instr) → first_fault (record { open_loop = open_loop; calls = calls; tasks = tasks; last = last }) is ≡ None
    → Goal open_loop calls tasks (walked (record { open_loop = open_loop; calls = calls; tasks = tasks; last = last }) is) is
counted open_loop calls tasks last [] none = cc
counted None calls tasks last (Halt ∷ is) none = (omega arith, omega arith)
counted (Some r) calls tasks last (Halt ∷ is) none = let e = (passes_all (met_in r calls tasks last) Halt is none).unclosed in cc
counted None calls tasks last (Loop times every ∷ is) none =
    let r : OpenLoop = record { times = times; every = every; start = tasks; calls = 0; first = 0 } in
    let k = counted (Some r) calls tasks last is (passes_first (met_out calls tasks last) (Loop times every) is none).1 in
    let body = body_of is in
    let less : tasks + tasks_in body - tasks ≡ tasks_in body = omega arith in
    let e : tasks + times * (tasks + tasks_in body - tasks) ≡ tasks + times * tasks_in body = ap (λ (n : ℕ). tasks + times * n) less in
    let zeros : 0 + length body ≡ length body = omega arith in
    let f : calls + times * (0 + length body) ≡ calls + times * length body = ap (λ (n : ℕ). calls + times * n) zeros in
    let m = from_equal true _ _ _ _ (walked (met_in r calls tasks last) is) is f e k.1 in
    let ys = calls_from true (tasks + times * tasks_in body) is in
    (omega (arith, m.0, length-append (iterations times 0 every body tasks) ys, length_turns times 0 every tasks body k.0), omega (arith, m.1, tasks_turns times 0 every tasks body ys))
counted (Some r) calls tasks last (Loop times every ∷ is) none = let e = (passes_first (met_in r calls tasks last) (Loop times every) is none).0.nested in cc
counted None calls tasks last (EndLoop ∷ is) none = let e = (passes_first (met_out calls tasks last) EndLoop is none).0.unclosed in cc
counted (Some r) calls tasks last (EndLoop ∷ is) none =
    let k = counted None (calls + r.times * r.calls) (r.start + r.times * (tasks - r.start)) ((r.times - 1) * r.every + last) is (passes_first (met_in r calls tasks last) EndLoop is none).1 in
    let a : r.calls ≡ r.calls + 0 = omega arith in
    let b : tasks ≡ tasks + 0 = omega arith in
    (tt, from_equal false _ _ _ _ (walked (met_out (calls + r.times * r.calls) (r.start + r.times * (tasks - r.start)) ((r.times - 1) * r.every + last)) is) is (ap (λ (n : ℕ). calls + r.times * n) a) (ap (λ (n : ℕ). r.start + r.times * (n - r.start)) b) k)
counted None calls tasks last (i ∷ is) none =
    let k = counted None (calls + 1) (tasks + tasks_by i) (offset_of i) is (passes_first (met_out calls tasks last) i is none).1 in
    let ys = calls_from false (tasks + tasks_by i) is in
    (omega (arith, k.0, length_call i 0 0 tasks ys refl), omega (arith, k.1, tasks_call 0 0 tasks i ys))
counted (Some r) calls tasks last (i ∷ is) none =
    let next : OpenLoop = record r { calls = r.calls + 1; first = cond (eqb r.calls 0) (offset_of i) r.first } in
    let k = counted (Some next) calls (tasks + tasks_by i) (offset_of i) is (passes_first (met_in r calls tasks last) i is none).1 in
    let a : r.calls + 1 + length (body_of is) ≡ r.calls + suc (length (body_of is)) = omega arith in
    let b : tasks + tasks_by i + tasks_in (body_of is) ≡ tasks + (tasks_by i + tasks_in (body_of is)) = omega arith in
    ((refl, k.0), from_equal true _ _ _ _ (walked (met_in next calls (tasks + tasks_by i) (offset_of i)) is) is (ap (λ (n : ℕ). calls + r.times * n) a) (ap (λ (n : ℕ). r.start + r.times * (n - r.start)) b) k.1)

tasks_low : (ps : List Planned) → task_count ps ≤ length ps
tasks_low [] = omega arith
tasks_low ((moment, call.Submit task timing delay) ∷ ps) = omega (arith, tasks_low ps)
tasks_low ((moment, call.Illegal task) ∷ ps) = omega (arith, tasks_low ps)
tasks_low ((moment, what) ∷ ps) = omega (arith, tasks_low ps)

-- all that is known of a list of instructions without a fault, and of what was met in it
pub record Known (code : List Instr) (p : Progress) : Type 0 where
  pub sound : IsCode code
  pub calls : p.calls ≡ length (calls_of code)
  pub tasks : p.tasks ≡ task_count (calls_of code)
  pub few_calls : p.calls ≤ 65536
  pub few_tasks : p.tasks ≤ 65536

-- instructions without a fault are a code, and what was met in them are its calls and its tasks
pub known : (code : List Instr) (p : Progress) → code_fault code ≡ None → p ≡ walked walk_opening code → AreTimed code → Known code p
known code p none is timed =
    let k = counted None 0 0 0 code (sym (fault_is code) ∙ none) in
    let good = sound code timed none in
    let calls : p.calls ≡ length (calls_of code) = ap (λ (q : Progress). q.calls) is ∙ omega (arith, k.0) in
    let tasks : p.tasks ≡ task_count (calls_of code) = ap (λ (q : Progress). q.tasks) is ∙ omega (arith, k.1) in
    record { sound = good; calls = calls; tasks = tasks; few_calls = omega (arith, calls, good.order.0); few_tasks = omega (arith, tasks, tasks_low (calls_of code), good.order.0) }
