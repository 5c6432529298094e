-- A list of instructions without a fault is a code: its loops are well formed, and its calls are in order.
use Rattle.std.proofs.Common.{◌≡◌, ℕ, zero, suc, ◌+◌, ◌*◌, ◌-◌, ◌<◌, ◌≤◌, ◌^◌, Bool, true, false, cond, leb, eqb, List, [], ◌∷◌, ◌++◌, Option, Some, None, length, refl, sym, ap, subst, ◌∙◌, arith, append_assoc, length-append}
use Rattle.std.proofs.lemmas.Bool.{leb-false, ltb-false, eqb-false, or_parts}
use Rattle.std.proofs.lemmas.Bool.Decides.{nat_tests}
use Rattle.std.proofs.Math.Nat.{mul-le-mul_right}
use Rattle.queue_code.specs.declared.instr.Instr.{Instr}
use Rattle.queue_code.specs.declared.instr.Instr.TheVariants.{Loop, EndLoop, Halt}
use Rattle.queue_code.specs.declared.progress.OpenLoop.{OpenLoop}
use Rattle.queue_code.specs.declared.progress.Progress.{Progress}
use Rattle.queue_code.specs.Calls.{Planned, IsOrderlyFrom}
use Rattle.queue_code.specs.Codes.{call_by, in_front, tasks_by, tasks_in, pass, iterations, body_of, calls_from}
use Rattle.queue_code.specs.Checks.{offset_of, makes_call, code_fault, IsTimedInstr, AreTimed}
use Rattle.queue_code.specs.own.Walks.{last_shift, walk_overlaps, first_fault}
use Rattle.queue_code.specs.Cursors.{BeginsWithCall}
use Rattle.queue_code.specs.own.Cursors.{IsCodeForm, IsCode}
use Rattle.queue_code.proofs.Passing.{Passes, passes_all, passes_first, Called, called, moment_low, not_before, length_call, in_front_append, last_halt}
use Rattle.queue_code.proofs.Totals.{if_zero, if_more}
use Rattle.queue_code.proofs.Faults.{fault_is}

-- what was met in a loop
abbrev pub met_in : OpenLoop → ℕ → ℕ → ℕ → Progress
met_in r calls tasks last = record { open_loop = Some r; calls = calls; tasks = tasks; last = last }

-- what was met outside a loop
abbrev pub met_out : ℕ → ℕ → ℕ → Progress
met_out calls tasks last = record { open_loop = None; calls = calls; tasks = tasks; last = last }

-- calls in order after a moment are in order after an earlier one
sooner : (count m n : ℕ) (ps : List Planned) → m ≤ n → IsOrderlyFrom count n ps → IsOrderlyFrom count m ps
sooner count m n [] low order = tt
sooner count m n (p ∷ ps) low order = (omega (arith, low, order.0), order.1, order.2, order.3)

-- a call in front of calls in order
call_first : (i : Instr) (base start count m : ℕ) (rest : List Planned) → Called i base start count → m ≤ base + offset_of i → base + offset_of i ≤ 2 ^ 62
    → IsOrderlyFrom (count + tasks_by i) (base + offset_of i) rest → IsOrderlyFrom count m (in_front (call_by base start count i) rest)
call_first i base start count m rest known low high order =
    subst (λ (o : Option Planned). IsOrderlyFrom count m (in_front o rest)) (sym known.is)
    (low, high, known.orderly, subst (λ (n : ℕ). IsOrderlyFrom n (base + offset_of i) rest) (sym known.next) order)

-- the calls of some instructions, where `calls` and `tasks` are the numbers of calls and tasks before them, and `last` is the
-- moment of the last call: they are in order and few enough
pub record Follows (inside : Bool) (calls tasks last : ℕ) (is : List Instr) : Type 0 where
  pub form : IsCodeForm inside is
  pub order : IsOrderlyFrom tasks last (calls_from inside tasks is)
  pub room : calls + length (calls_from inside tasks is) ≤ 65536

-- what is known of the rest of an open loop's instructions and of what comes behind the loop. `ends` is how many tasks
-- there are at the loop's end and `final` the last offset, in the first iteration; `first` is the first offset of
-- the loop, `head` that of the rest, and `size` how many calls an iteration makes
record FollowsInside (r : OpenLoop) (calls tasks last : ℕ) (is : List Instr) : Type 0 where
  ends : ℕ
  ends_is : ends ≡ tasks + tasks_in (body_of is)
  final : ℕ
  first : ℕ
  head : ℕ
  size : ℕ
  size_is : (base start count : ℕ) → r.calls + length (pass base start count (body_of is)) ≡ size
  low : last ≤ head
  first_is : r.calls ≡ 0 → first ≡ head
  begun : 1 ≤ r.calls → first ≡ r.first
  fits : 1 < r.times → final ≤ first + r.every
  -- in an iteration at each base, with `more` tasks more: what is in order behind it makes it and that in order
  passes : (base more m : ℕ) (ys : List Planned) → base ≤ last_shift (Some r) → m ≤ base + head → IsOrderlyFrom (ends + more) (base + final) ys
      → IsOrderlyFrom (tasks + more) m (pass base (r.start + more) (tasks + more) (body_of is) ++ ys)
  behind : Follows true (calls + r.times * size) (r.start + r.times * (ends - r.start)) ((r.times - 1) * r.every + final) is

not_overlapping : (r : OpenLoop) (last : ℕ) → walk_overlaps (met_in r 0 0 last) (Some r) ≡ false → 1 < r.times → last ≤ r.first + r.every
not_overlapping r last apart more = grind (arith, nat_tests)

-- the iterations of a loop from number q on, where those behind the loop are in order
turns : (r : OpenLoop) (calls last : ℕ) (is : List Instr) (h : FollowsInside r calls r.start last is) → r.calls ≡ 0 → (k q m : ℕ) (ys : List Planned) → q + suc k ≡ r.times → m ≤ q * r.every + h.head
    → IsOrderlyFrom (r.start + r.times * (h.ends - r.start)) ((r.times - 1) * r.every + h.final) ys
    → IsOrderlyFrom (r.start + q * tasks_in (body_of is)) m (iterations (suc k) q r.every (body_of is) (r.start + q * tasks_in (body_of is)) ++ ys)
turns r calls last is h none zero q m ys count low end =
    let t = tasks_in (body_of is) in
    let c = r.start + q * t in
    let times : r.times ≡ q + 1 = omega (arith, count) in
    let less : r.times - 1 ≡ q = omega (arith, count) in
    let made : h.ends - r.start ≡ t = omega (arith, h.ends_is) in
    let a : r.start + r.times * (h.ends - r.start) ≡ h.ends + q * t = rw (made, times) (omega (arith, h.ends_is)) in
    let b : (r.times - 1) * r.every + h.final ≡ q * r.every + h.final = ap (λ (n : ℕ). n * r.every + h.final) less in
    let at : q * r.every ≤ (r.times - 1) * r.every = mul-le-mul_right r.every (omega (arith, less)) in
    rw (append_assoc (pass (q * r.every) c c (body_of is)) [] ys)
    (h.passes (q * r.every) (q * t) m ys at low (subst (λ (n : ℕ). IsOrderlyFrom (h.ends + q * t) n ys) b (subst (λ (n : ℕ). IsOrderlyFrom n ((r.times - 1) * r.every + h.final) ys) a end)))
turns r calls last is h none (suc k) q m ys count low end =
    let t = tasks_in (body_of is) in
    let c = r.start + q * t in
    let many : 1 < r.times = omega (arith, count) in
    let next = turns r calls last is h none k (q + 1) (q * r.every + h.final) ys (omega (arith, count)) (omega (arith, h.fits many, h.first_is none)) end in
    let at : q * r.every ≤ (r.times - 1) * r.every = mul-le-mul_right r.every (omega (arith, count)) in
    let a : r.start + (q + 1) * t ≡ h.ends + q * t = omega (arith, h.ends_is) in
    let b : r.start + (q + 1) * t ≡ r.start + q * t + t = omega arith in
    rw (append_assoc (pass (q * r.every) c c (body_of is)) (iterations (suc k) (q + 1) r.every (body_of is) (c + t)) ys)
    (h.passes (q * r.every) (q * t) m (iterations (suc k) (q + 1) r.every (body_of is) (c + t) ++ ys) at low
    (subst (λ (n : ℕ). IsOrderlyFrom (h.ends + q * t) (q * r.every + h.final) (iterations (suc k) (q + 1) r.every (body_of is) n ++ ys)) b
    (subst (λ (n : ℕ). IsOrderlyFrom n (q * r.every + h.final) (iterations (suc k) (q + 1) r.every (body_of is) (r.start + (q + 1) * t) ++ ys)) a next)))

-- how many calls iterations make
sizes : (r : OpenLoop) (calls tasks last : ℕ) (is : List Instr) (h : FollowsInside r calls tasks last is) → r.calls ≡ 0 → (n q count : ℕ) → length (iterations n q r.every (body_of is) count) ≡ n * h.size
sizes r calls tasks last is h none zero q count = omega arith
sizes r calls tasks last is h none (suc n) q count =
    omega (
      arith,
      length-append (pass (q * r.every) count count (body_of is)) (iterations n (q + 1) r.every (body_of is) (count + tasks_in (body_of is))),
      h.size_is (q * r.every) count count,
      sizes r calls tasks last is h none n (q + 1) (count + tasks_in (body_of is)),
      none,
    )

-- a loop begins with a call: no loop begins in it, and it has a call before its end
pub begins : (r : OpenLoop) (calls tasks last : ℕ) (is : List Instr) → r.calls ≡ 0 → first_fault (met_in r calls tasks last) is ≡ None → BeginsWithCall is
begins r calls tasks last [] none fault = cc
begins r calls tasks last (Halt ∷ is) none fault = let e = (passes_all (met_in r calls tasks last) Halt is fault).unclosed in cc
begins r calls tasks last (Loop times every ∷ is) none fault = let e = (passes_first (met_in r calls tasks last) (Loop times every) is fault).0.nested in cc
begins r calls tasks last (EndLoop ∷ is) none fault =
    let e : eqb r.calls 0 ≡ false = (passes_first (met_in r calls tasks last) EndLoop is fault).0.empty in
    absurd (eqb-false r.calls 0 e none)
begins r calls tasks last (i ∷ is) none fault = tt

-- what follows from no fault, in a loop and outside one
abbrev Goal : Option OpenLoop → ℕ → ℕ → ℕ → List Instr → Type 0
Goal None calls tasks last is = calls ≤ 65536 → Follows false calls tasks last is
Goal (Some r) calls tasks last is = r.start ≤ tasks → FollowsInside r calls tasks last is

-- a whole loop, from what is known of its instructions
whole_loop : (times every calls tasks last : ℕ) (is : List Instr) → BeginsWithCall is → 1 ≤ times → FollowsInside (record { times = times; every = every; start = tasks; calls = 0; first = 0 }) calls tasks last is
    → Follows false calls tasks last (Loop times every ∷ is)
whole_loop zero every calls tasks last is b low h = absurd (omega (arith, low))
whole_loop (suc k) every calls tasks last is b low h =
    let r : OpenLoop = record { times = suc k; every = every; start = tasks; calls = 0; first = 0 } in
    let t = tasks_in (body_of is) in
    let made : h.ends - tasks ≡ t = omega (arith, h.ends_is) in
    let total : tasks + suc k * (h.ends - tasks) ≡ tasks + suc k * t = ap (λ (n : ℕ). tasks + suc k * n) made in
    let zeros : tasks + 0 * t ≡ tasks = omega arith in
    let ys = calls_from true (tasks + suc k * t) is in
    let end : IsOrderlyFrom (tasks + suc k * (h.ends - tasks)) ((suc k - 1) * every + h.final) ys = subst (λ (n : ℕ). IsOrderlyFrom (tasks + suc k * (h.ends - tasks)) ((suc k - 1) * every + h.final) (calls_from true n is)) total h.behind.order in
    let all = turns r calls last is h refl k 0 last ys (omega arith) (omega (arith, h.low)) end in
    record {
      form = (low, b, h.behind.form);
      order = subst (λ (n : ℕ). IsOrderlyFrom n last (iterations (suc k) 0 every (body_of is) n ++ ys)) zeros all;
      room = omega (arith, length-append (iterations (suc k) 0 every (body_of is) tasks) ys, sizes r calls tasks last is h refl (suc k) 0 tasks, h.behind.room, ap (λ (n : ℕ). length (calls_from true n is)) total);
    }

-- a call outside loops
call_outside : (i : Instr) (calls tasks last : ℕ) (is : List Instr) → makes_call i ≡ true → Called i 0 0 tasks → last ≤ offset_of i → offset_of i ≤ 2 ^ 62 → Follows false (calls + 1) (tasks + tasks_by i) (offset_of i) is
    → IsOrderlyFrom tasks last (in_front (call_by 0 0 tasks i) (calls_from false (tasks + tasks_by i) is)) × (calls + length (in_front (call_by 0 0 tasks i) (calls_from false (tasks + tasks_by i) is)) ≤ 65536)
call_outside i calls tasks last is call known low high h =
    let e : offset_of i ≡ 0 + offset_of i = omega arith in (
      call_first i 0 0 tasks last _ known (omega (arith, low)) (omega (arith, high)) (subst (λ (n : ℕ). IsOrderlyFrom (tasks + tasks_by i) n (calls_from false (tasks + tasks_by i) is)) e h.order),
      omega (arith, length_call i 0 0 tasks (calls_from false (tasks + tasks_by i) is) call, h.room),
    )

call_more : (i : Instr) (base start count more m : ℕ) (body : List Instr) (ys : List Planned) → Called i base (start + more) (count + more) → m ≤ base + offset_of i → base + offset_of i ≤ 2 ^ 62
    → IsOrderlyFrom (count + tasks_by i + more) (base + offset_of i) (pass base (start + more) (count + tasks_by i + more) body ++ ys)
    → IsOrderlyFrom (count + more) m (in_front (call_by base (start + more) (count + more) i) (pass base (start + more) (count + more + tasks_by i) body) ++ ys)
call_more i base start count more m body ys known low high order =
    let e : count + tasks_by i + more ≡ count + more + tasks_by i = omega arith in
    subst (λ (ps : List Planned). IsOrderlyFrom (count + more) m ps) (sym (in_front_append (call_by base (start + more) (count + more) i) (pass base (start + more) (count + more + tasks_by i) body) ys))
    (call_first i base (start + more) (count + more) m (pass base (start + more) (count + more + tasks_by i) body ++ ys) known low high
    (subst (λ (n : ℕ). IsOrderlyFrom n (base + offset_of i) (pass base (start + more) n body ++ ys)) e order))

task_here : (r : OpenLoop) (tasks nth more : ℕ) → r.start ≤ tasks → leb (tasks - r.start) nth ≡ false → r.start + more + nth < tasks + more
task_here r tasks nth more low has = let e = leb-false (tasks - r.start) nth has in omega (arith, e, low)

-- a call in a loop, in each iteration
call_inside : (r : OpenLoop) (i : Instr) (calls tasks last : ℕ) (is : List Instr) → makes_call i ≡ true → IsTimedInstr i → Passes (met_in r calls tasks last) i is → r.start ≤ tasks
    → (h : FollowsInside (record r { calls = r.calls + 1; first = cond (eqb r.calls 0) (offset_of i) r.first }) calls (tasks + tasks_by i) (offset_of i) is)
    → (base more m : ℕ) (ys : List Planned) → base ≤ last_shift (Some r) → m ≤ base + offset_of i → IsOrderlyFrom (h.ends + more) (base + h.final) ys
    → IsOrderlyFrom (tasks + more) m (in_front (call_by base (r.start + more) (tasks + more) i) (pass base (r.start + more) (tasks + more + tasks_by i) (body_of is)) ++ ys)
call_inside r i calls tasks last is call timed fine low h base more m ys at later end =
    call_more i base r.start tasks more m (body_of is) ys
    (called (met_in r calls tasks last) i base (r.start + more) (tasks + more) call timed fine.task fine.large (omega arith) (λ nth e. task_here r tasks nth more low e))
    later
    (omega (arith, at, moment_low (met_in r calls tasks last) i call fine.large))
    (h.passes base more (base + offset_of i) ys at (omega (arith, h.low)) end)

follows : (open_loop : Option OpenLoop) (calls tasks last : ℕ) (is : List Instr) → AreTimed is → first_fault (record { open_loop = open_loop; calls = calls; tasks = tasks; last = last }) is ≡ None → Goal open_loop calls tasks last is
follows open_loop calls tasks last [] timed fault = cc
follows None calls tasks last (Halt ∷ is) timed fault = λ few.
    let fine = passes_all (met_out calls tasks last) Halt is fault in
    record { form = last_halt is fine.early; order = tt; room = omega (arith, few) }
follows (Some r) calls tasks last (Halt ∷ is) timed fault = λ low. let e = (passes_all (met_in r calls tasks last) Halt is fault).unclosed in cc
follows None calls tasks last (Loop times every ∷ is) timed fault = λ few.
    let parts = passes_first (met_out calls tasks last) (Loop times every) is fault in
    let r : OpenLoop = record { times = times; every = every; start = tasks; calls = 0; first = 0 } in
    whole_loop times every calls tasks last is (begins r calls tasks last is refl parts.1) (ltb-false times 1 (or_parts _ _ parts.0.many).0) (follows (Some r) calls tasks last is timed.1 parts.1 (omega arith))
follows (Some r) calls tasks last (Loop times every ∷ is) timed fault = λ low. let e = (passes_first (met_in r calls tasks last) (Loop times every) is fault).0.nested in cc
follows None calls tasks last (EndLoop ∷ is) timed fault = λ few. let e = (passes_first (met_out calls tasks last) EndLoop is fault).0.unclosed in cc
follows (Some r) calls tasks last (EndLoop ∷ is) timed fault = λ low.
    let parts = passes_first (met_in r calls tasks last) EndLoop is fault in
    let fine = parts.0 in
    let rest = follows None (calls + r.times * r.calls) (r.start + r.times * (tasks - r.start)) ((r.times - 1) * r.every + last) is timed.1 parts.1 (ltb-false 65536 (calls + r.times * r.calls) fine.many) in
    record {
      ends = tasks;
      ends_is = omega arith;
      final = last;
      first = r.first;
      head = last;
      size = r.calls;
      size_is = λ base start count. omega arith;
      low = omega arith;
      first_is = λ e. absurd (eqb-false r.calls 0 fine.empty e);
      begun = λ e. refl;
      fits = not_overlapping r last fine.order;
      passes = λ base more m ys at later end. sooner (tasks + more) m (base + last) ys later end;
      behind = record { form = rest.form; order = rest.order; room = rest.room };
    }
follows None calls tasks last (i ∷ is) timed fault = λ few.
    let parts = passes_first (met_out calls tasks last) i is fault in
    let fine = parts.0 in
    let rest = follows None (calls + 1) (tasks + tasks_by i) (offset_of i) is timed.1 parts.1 (ltb-false 65536 (calls + 1) fine.many) in
    let known = called (met_out calls tasks last) i 0 0 tasks refl timed.0 fine.task fine.large (omega arith) (λ nth e. cc) in
    let o = call_outside i calls tasks last is refl known (not_before (met_out calls tasks last) i refl fine.order) (omega (arith, moment_low (met_out calls tasks last) i refl fine.large)) rest in
    record { form = rest.form; order = o.0; room = o.1 }
follows (Some r) calls tasks last (i ∷ is) timed fault = λ low.
    let parts = passes_first (met_in r calls tasks last) i is fault in
    let fine = parts.0 in
    let next : OpenLoop = record r { calls = r.calls + 1; first = cond (eqb r.calls 0) (offset_of i) r.first } in
    let rest = follows (Some next) calls (tasks + tasks_by i) (offset_of i) is timed.1 parts.1 (omega (arith, low)) in
    record {
      ends = rest.ends;
      ends_is = omega (arith, rest.ends_is);
      final = rest.final;
      first = rest.first;
      head = offset_of i;
      size = rest.size;
      size_is = λ base start count. omega (arith, length_call i base start count (pass base start (count + tasks_by i) (body_of is)) refl, rest.size_is base start (count + tasks_by i));
      low = not_before (met_in r calls tasks last) i refl fine.order;
      first_is = λ e. rest.begun (omega arith) ∙ if_zero r.calls (offset_of i) r.first e;
      begun = λ e. rest.begun (omega arith) ∙ if_more r.calls (offset_of i) r.first e;
      fits = rest.fits;
      passes = call_inside r i calls tasks last is refl timed.0 fine low rest;
      behind = record { form = rest.behind.form; order = rest.behind.order; room = rest.behind.room };
    }

-- a list of instructions without a fault is a code
pub sound : (code : List Instr) → AreTimed code → code_fault code ≡ None → IsCode code
sound code timed fault =
    let f = follows None 0 0 0 code timed (sym (fault_is code) ∙ fault) (omega arith) in
    record { form = f.form; order = (omega (arith, f.room), f.order) }
