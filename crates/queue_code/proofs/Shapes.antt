-- A list of instructions is accepted exactly where it has the shape of a code and its calls are in order.
use Rattle.std.proofs.Common.{◌≡◌, ℕ, zero, suc, ◌+◌, ◌*◌, ◌-◌, ◌<◌, ◌≤◌, ◌^◌, true, false, cond, eqb, ltb, ◌&&◌, List, [], ◌∷◌, ◌++◌, Option, Some, None, length, is_some, refl, sym, ap, subst, ◌∙◌, arith, inl, inr, append_assoc, append-nil, length-append}
use Rattle.std.proofs.lemmas.Bool.{le-ltb, ltb-false, ltb-true, or_parts, or_from, cases_Bool}
use Rattle.std.proofs.lemmas.Bool.Decides.{nat_tests}
use Rattle.queue_code.specs.declared.fault.CodeFault.{CodeFault}
use Rattle.queue_code.specs.declared.call.CodeCall.TheVariants as call
use Rattle.queue_code.specs.declared.instr.Instr.{Instr}
use Rattle.queue_code.specs.declared.instr.Instr.TheVariants.{Submit, Illegal, CancelFixed, CancelHere, Loop, EndLoop, Halt}
use Rattle.queue_code.specs.declared.progress.OpenLoop.{OpenLoop}
use Rattle.queue_code.specs.declared.progress.Progress.{Progress}
use Rattle.queue_code.specs.Calls.{Planned, task_count, IsOrderlyFrom}
use Rattle.queue_code.specs.Codes.{call_by, in_front, tasks_by, tasks_in, pass, iterations, body_of, calls_from}
use Rattle.queue_code.specs.Checks.{first_call_moment, last_from, offset_of, makes_call, first_failed, or_else}
use Rattle.queue_code.specs.own.Walks.{last_shift, walk_calls_after, walk_bad_task, walk_after, walk_checks, first_fault}
use Rattle.queue_code.specs.Cursors.{BeginsWithCall}
use Rattle.queue_code.specs.CodeLaws.{IsShaped, AcceptedExactly}
use Rattle.queue_code.proofs.Passing.{Passes, passes_all, passes_first, in_front_append, length_call, last_halt}
use Rattle.queue_code.proofs.Totals.{AreCalls, tasks_pass, tasks_turns, length_turns, last_call, first_call, last_turns, if_more}
use Rattle.queue_code.proofs.Faults.{fault_is}
use Rattle.queue_code.proofs.Soundness.{met_in, met_out, begins, sound}
use Rattle.queue_code.proofs.Accepting.{none_fails, leb_not}

-- ---- from no fault to the shape

shaped : (open_loop : Option OpenLoop) (calls tasks last : ℕ) (is : List Instr) → first_fault (record { open_loop = open_loop; calls = calls; tasks = tasks; last = last }) is ≡ None → IsShaped (is_some open_loop) is
shaped open_loop calls tasks last [] fault = cc
shaped None calls tasks last (Halt ∷ is) fault = last_halt is (passes_all (met_out calls tasks last) Halt is fault).early
shaped (Some r) calls tasks last (Halt ∷ is) fault = let e = (passes_all (met_in r calls tasks last) Halt is fault).unclosed in cc
shaped None calls tasks last (Loop times every ∷ is) fault =
    let parts = passes_first (met_out calls tasks last) (Loop times every) is fault in
    let r : OpenLoop = record { times = times; every = every; start = tasks; calls = 0; first = 0 } in
    let many = or_parts (ltb times 1) (ltb 65536 times) parts.0.many in
    (ltb-false times 1 many.0, ltb-false 65536 times many.1, ltb-false (2 ^ 62) every parts.0.large, begins r calls tasks last is refl parts.1, shaped (Some r) calls tasks last is parts.1)
shaped (Some r) calls tasks last (Loop times every ∷ is) fault = let e = (passes_first (met_in r calls tasks last) (Loop times every) is fault).0.nested in cc
shaped None calls tasks last (EndLoop ∷ is) fault = let e = (passes_first (met_out calls tasks last) EndLoop is fault).0.unclosed in cc
shaped (Some r) calls tasks last (EndLoop ∷ is) fault =
    shaped None (calls + r.times * r.calls) (r.start + r.times * (tasks - r.start)) ((r.times - 1) * r.every + last) is (passes_first (met_in r calls tasks last) EndLoop is fault).1
shaped None calls tasks last (CancelHere offset nth ∷ is) fault = let e = (passes_first (met_out calls tasks last) (CancelHere offset nth) is fault).0.task in cc
shaped None calls tasks last (i ∷ is) fault = shaped None (calls + 1) (tasks + tasks_by i) (offset_of i) is (passes_first (met_out calls tasks last) i is fault).1
shaped (Some r) calls tasks last (i ∷ is) fault =
    shaped (Some (record r { calls = r.calls + 1; first = cond (eqb r.calls 0) (offset_of i) r.first })) calls (tasks + tasks_by i) (offset_of i) is (passes_first (met_in r calls tasks last) i is fault).1

-- ---- calls in order

-- what is in order behind some calls
order_behind : (count m : ℕ) (xs ys : List Planned) → IsOrderlyFrom count m (xs ++ ys) → IsOrderlyFrom (count + task_count xs) (last_from m xs) ys
order_behind count m [] ys order = let e : count ≡ count + 0 = omega arith in subst (λ (n : ℕ). IsOrderlyFrom n m ys) e order
order_behind count m ((moment, call.Submit task timing delay) ∷ xs) ys order =
    let e : count + 1 + task_count xs ≡ count + (1 + task_count xs) = omega arith in
    subst (λ (n : ℕ). IsOrderlyFrom n (last_from moment xs) ys) e (order_behind (count + 1) moment xs ys order.3)
order_behind count m ((moment, call.Illegal task) ∷ xs) ys order =
    let e : count + 1 + task_count xs ≡ count + (1 + task_count xs) = omega arith in
    subst (λ (n : ℕ). IsOrderlyFrom n (last_from moment xs) ys) e (order_behind (count + 1) moment xs ys order.3)
order_behind count m ((moment, what) ∷ xs) ys order = order_behind count moment xs ys order.3

-- the delay of a submission is within the limit
abbrev IsShort : Instr → Type 0
IsShort (Submit offset timing delay) = delay ≤ 2 ^ 62
IsShort i = Unit {0}

-- a cancel names an earlier task
abbrev IsAimed : ℕ → ℕ → Instr → Type 0
IsAimed start count (CancelFixed offset task) = task < count
IsAimed start count (CancelHere offset nth) = start + nth < count
IsAimed start count i = Unit {0}

-- what is known of a call that is in order, and of what is behind it
record Opened (base start count m : ℕ) (i : Instr) (rest : List Planned) : Type 0 where
  low : m ≤ base + offset_of i
  high : base + offset_of i ≤ 2 ^ 62
  short : IsShort i
  aimed : IsAimed start count i
  behind : IsOrderlyFrom (count + tasks_by i) (base + offset_of i) rest

none_more : (count m : ℕ) (rest : List Planned) → IsOrderlyFrom count m rest → IsOrderlyFrom (count + 0) m rest
none_more count m rest order = let e : count ≡ count + 0 = omega arith in subst (λ (n : ℕ). IsOrderlyFrom n m rest) e order

opened : (base start count m : ℕ) (i : Instr) (rest : List Planned) → makes_call i ≡ true → IsOrderlyFrom count m (in_front (call_by base start count i) rest) → Opened base start count m i rest
opened base start count m (Loop times every) rest call order = cc
opened base start count m EndLoop rest call order = cc
opened base start count m Halt rest call order = cc
opened base start count m (Submit offset timing delay) rest call order = record { low = order.0; high = order.1; short = order.2.1; aimed = tt; behind = order.3 }
opened base start count m (Illegal offset) rest call order = record { low = order.0; high = order.1; short = tt; aimed = tt; behind = order.3 }
opened base start count m (CancelFixed offset task) rest call order = record { low = order.0; high = order.1; short = tt; aimed = order.2; behind = none_more count (base + offset) rest order.3 }
opened base start count m (CancelHere offset nth) rest call order = record { low = order.0; high = order.1; short = tt; aimed = order.2; behind = none_more count (base + offset) rest order.3 }
opened base start count m i rest call order = record { low = order.0; high = order.1; short = tt; aimed = tt; behind = none_more count (base + offset_of i) rest order.3 }

-- the first of calls that are in order
opened_pass : (base start count m : ℕ) (i : Instr) (is : List Instr) (ys : List Planned) → makes_call i ≡ true → IsOrderlyFrom count m (pass base start count (i ∷ is) ++ ys)
    → Opened base start count m i (pass base start (count + tasks_by i) is ++ ys)
opened_pass base start count m i is ys call order =
    opened base start count m i (pass base start (count + tasks_by i) is ++ ys) call
    (subst (IsOrderlyFrom count m) (in_front_append (call_by base start count i) (pass base start (count + tasks_by i) is) ys) order)

-- each call at this base is within the limit
abbrev AreInTime : ℕ → List Instr → Type 0
AreInTime base [] = Unit {0}
AreInTime base (i ∷ is) = (base + offset_of i ≤ 2 ^ 62) × AreInTime base is

in_time : (base start count m : ℕ) (is : List Instr) (ys : List Planned) → AreCalls is → IsOrderlyFrom count m (pass base start count is ++ ys) → AreInTime base is
in_time base start count m [] ys calls order = tt
in_time base start count m (i ∷ is) ys calls order =
    let o = opened_pass base start count m i is ys calls.0 order in
    (o.high, in_time base start (count + tasks_by i) (base + offset_of i) is ys calls.1 o.behind)

-- ---- a loop that is written out

-- behind an iteration
turn_behind : (n q every count m : ℕ) (body : List Instr) (ys : List Planned) → IsOrderlyFrom count m (iterations (suc n) q every body count ++ ys)
    → IsOrderlyFrom (count + tasks_in body) (last_from m (pass (q * every) count count body)) (iterations n (q + 1) every body (count + tasks_in body) ++ ys)
turn_behind n q every count m body ys order =
    let one = pass (q * every) count count body in
    let rest = iterations n (q + 1) every body (count + tasks_in body) ++ ys in
    let parted : IsOrderlyFrom count m (one ++ rest) = subst (IsOrderlyFrom count m) (append_assoc one (iterations n (q + 1) every body (count + tasks_in body)) ys) order in
    let e : count + task_count one ≡ count + tasks_in body = omega (arith, ap task_count (sym (append-nil one)), tasks_pass (q * every) count count body []) in
    subst (λ (k : ℕ). IsOrderlyFrom k (last_from m one) rest) e (order_behind count m one rest parted)

-- the first iteration
turn_first : (n q every count m : ℕ) (body : List Instr) (ys : List Planned) → IsOrderlyFrom count m (iterations (suc n) q every body count ++ ys)
    → IsOrderlyFrom count m (pass (q * every) count count body ++ (iterations n (q + 1) every body (count + tasks_in body) ++ ys))
turn_first n q every count m body ys order = subst (IsOrderlyFrom count m) (append_assoc (pass (q * every) count count body) (iterations n (q + 1) every body (count + tasks_in body)) ys) order

-- in the last iteration each call is within the limit
last_in_time : (n q every count m : ℕ) (body : List Instr) (ys : List Planned) → AreCalls body → IsOrderlyFrom count m (iterations (suc n) q every body count ++ ys) → AreInTime ((q + n) * every) body
last_in_time zero q every count m body ys calls order =
    let e : q ≡ q + 0 = omega arith in
    subst (λ (k : ℕ). AreInTime (k * every) body) e (in_time (q * every) count count m body ys calls (turn_first zero q every count m body ys order))
last_in_time (suc n) q every count m body ys calls order =
    let e : q + 1 + n ≡ q + suc n = omega arith in
    subst (λ (k : ℕ). AreInTime (k * every) body) e
    (last_in_time n (q + 1) every (count + tasks_in body) (last_from m (pass (q * every) count count body)) body ys calls (turn_behind (suc n) q every count m body ys order))

-- the second iteration begins when the first has ended
second_after : (n every count m : ℕ) (i : Instr) (is : List Instr) (ys : List Planned) → AreCalls (i ∷ is) → IsOrderlyFrom count m (iterations (suc (suc n)) 0 every (i ∷ is) count ++ ys)
    → last_from m (pass 0 count count (i ∷ is)) ≤ first_call_moment (pass 0 count count (i ∷ is)) + every
second_after n every count m i is ys calls order =
    let next = turn_behind (suc n) 0 every count m (i ∷ is) ys order in
    let o = opened_pass (1 * every) (count + tasks_in (i ∷ is)) (count + tasks_in (i ∷ is)) (last_from m (pass (0 * every) count count (i ∷ is))) i is (iterations n 2 every (i ∷ is) (count + tasks_in (i ∷ is) + tasks_in (i ∷ is)) ++ ys) calls.0
    (turn_first n 1 every (count + tasks_in (i ∷ is)) (last_from m (pass (0 * every) count count (i ∷ is))) (i ∷ is) ys next) in
    let zeros : 0 * every ≡ 0 = omega arith in
    let e : last_from m (pass (0 * every) count count (i ∷ is)) ≡ last_from m (pass 0 count count (i ∷ is)) = ap (λ (b : ℕ). last_from m (pass b count count (i ∷ is))) zeros in
    omega (arith, o.low, e, first_call 0 count count i (pass 0 count (count + tasks_by i) is) calls.0)

calls_of_body : (is : List Instr) → IsShaped true is → AreCalls (body_of is)
calls_of_body [] shape = absurd shape
calls_of_body (Loop times every ∷ is) shape = absurd shape
calls_of_body (EndLoop ∷ is) shape = tt
calls_of_body (Halt ∷ is) shape = absurd shape
calls_of_body (i ∷ is) shape = (refl, calls_of_body is shape)

-- ---- from the shape and the order to no fault

-- in front of instructions without a fault, one that passes
passes_on : (p : Progress) (i : Instr) (rest : List Instr) → Passes p i rest → first_fault (walk_after p i) rest ≡ None → or_else (first_failed (walk_checks p i rest)) (first_fault (walk_after p i) rest) ≡ None
passes_on p i rest fine behind = ap (λ (o : Option CodeFault). or_else o (first_fault (walk_after p i) rest)) (none_fails p i rest fine) ∙ behind

-- a call that is in order passes
call_passes : (p : Progress) (i : Instr) (rest : List Instr) → makes_call i ≡ true → IsShort i → last_shift p.open_loop + offset_of i ≤ 2 ^ 62 → p.last ≤ offset_of i → walk_calls_after p.open_loop p.calls ≤ 65536
    → walk_bad_task p i ≡ false → Passes p i rest
call_passes p (Loop times every) rest call short high low few task = cc
call_passes p EndLoop rest call short high low few task = cc
call_passes p Halt rest call short high low few task = cc
call_passes p (Submit offset timing delay) rest call short high low few task = record { early = refl; nested = refl; unclosed = refl; empty = refl; task = refl; large = or_from _ _ (le-ltb _ _ short) (le-ltb _ _ high); order = le-ltb _ _ low; many = le-ltb _ _ few }
call_passes p i rest call short high low few task = record { early = refl; nested = refl; unclosed = refl; empty = refl; task = task; large = le-ltb _ _ high; order = le-ltb _ _ low; many = le-ltb _ _ few }

-- the calls of the rest of a loop's instructions, in its first iteration and in its last, and those behind it are in order. `begin` is
-- the moment of the first call of the loop
record Within (r : OpenLoop) (calls tasks last : ℕ) (is : List Instr) : Type 0 where
  begin : ℕ
  first_is : 1 ≤ r.calls → r.first ≡ begin
  begins_at : r.calls ≡ 0 → first_call_moment (pass 0 r.start tasks (body_of is)) ≡ begin
  some : 1 ≤ r.calls + length (body_of is)
  low : r.start ≤ tasks
  few : calls ≤ 65536
  others : List Planned
  order : IsOrderlyFrom tasks last (pass 0 r.start tasks (body_of is) ++ others)
  late : AreInTime ((r.times - 1) * r.every) (body_of is)
  fits : 1 < r.times → last_from last (pass 0 r.start tasks (body_of is)) ≤ begin + r.every
  room : calls + r.times * (r.calls + length (body_of is)) + length (calls_from true (r.start + r.times * (tasks + tasks_in (body_of is) - r.start)) is) ≤ 65536
  behind : IsOrderlyFrom (r.start + r.times * (tasks + tasks_in (body_of is) - r.start)) ((r.times - 1) * r.every + last_from last (pass 0 r.start tasks (body_of is)))
      (calls_from true (r.start + r.times * (tasks + tasks_in (body_of is) - r.start)) is)

abbrev Goal : Option OpenLoop → ℕ → ℕ → ℕ → List Instr → Type 0
Goal None calls tasks last is = IsOrderlyFrom tasks last (calls_from false tasks is) → calls + length (calls_from false tasks is) ≤ 65536 → first_fault (met_out calls tasks last) is ≡ None
Goal (Some r) calls tasks last is = Within r calls tasks last is → first_fault (met_in r calls tasks last) is ≡ None

and_no : (n x y : ℕ) → (1 < n → y ≤ x) → (ltb 1 n && ltb x y) ≡ false
and_no n x y low =
    elim (cases_Bool (ltb 1 n)) [
      | inl more ↦ rw more (le-ltb x y (low (ltb-true 1 n more)))
      | inr few ↦ rw few refl
    ]

not_none : (n : ℕ) → 1 ≤ n → eqb n 0 ≡ false
not_none n some = grind (arith, nat_tests)

first_next : (n a b c : ℕ) → (n ≡ 0 → a ≡ c) → (1 ≤ n → b ≡ c) → cond (eqb n 0) a b ≡ c
first_next zero a b c here before = here refl
first_next (suc n) a b c here before = if_more (suc n) a b (omega arith) ∙ before (omega arith)

some_call : (is : List Instr) → BeginsWithCall is → 1 ≤ length (body_of is)
some_call [] starts = absurd starts
some_call (Loop times every ∷ is) starts = absurd starts
some_call (EndLoop ∷ is) starts = absurd starts
some_call (Halt ∷ is) starts = absurd starts
some_call (i ∷ is) starts = omega arith

apart : (n every count m : ℕ) (body : List Instr) (ys : List Planned) → AreCalls body → 1 ≤ length body → IsOrderlyFrom count m (iterations (suc n) 0 every body count ++ ys)
    → 1 < suc n → last_from m (pass 0 count count body) ≤ first_call_moment (pass 0 count count body) + every
apart n every count m [] ys calls some order more = absurd (omega (arith, some))
apart zero every count m (i ∷ is) ys calls some order more = absurd (omega (arith, more))
apart (suc n) every count m (i ∷ is) ys calls some order more = second_after n every count m i is ys calls order

last_whole : (n every count m : ℕ) (body : List Instr) → AreCalls body → 1 ≤ length body → last_from m (iterations (suc n) 0 every body count) ≡ n * every + last_from m (pass 0 count count body)
last_whole n every count m [] calls some = absurd (omega (arith, some))
last_whole n every count m (i ∷ is) calls some =
    let e : 0 + n ≡ n = omega arith in
    last_turns n 0 every count count count m m i is calls ∙ ap (λ (k : ℕ). k * every + last_from m (pass 0 count count (i ∷ is))) e

-- a loop at its beginning
loop_within : (n every calls tasks last : ℕ) (is : List Instr) → BeginsWithCall is → IsShaped true is
    → IsOrderlyFrom tasks last (iterations (suc n) 0 every (body_of is) tasks ++ calls_from true (tasks + suc n * tasks_in (body_of is)) is)
    → calls + length (iterations (suc n) 0 every (body_of is) tasks ++ calls_from true (tasks + suc n * tasks_in (body_of is)) is) ≤ 65536
    → Within (record { times = suc n; every = every; start = tasks; calls = 0; first = 0 }) calls tasks last is
loop_within n every calls tasks last is starts shape order room =
    let body = body_of is in
    let t = tasks_in body in
    let ys = calls_from true (tasks + suc n * t) is in
    let all = iterations (suc n) 0 every body tasks in
    let plain = calls_of_body is shape in
    let size = some_call is starts in
    let less : tasks + t - tasks ≡ t = omega arith in
    let total : tasks + suc n * t ≡ tasks + suc n * (tasks + t - tasks) = ap (λ (k : ℕ). tasks + suc n * k) (sym less) in
    let zeros : 0 * every ≡ 0 = omega arith in
    let none : 0 + n ≡ suc n - 1 = omega arith in
    let same : n ≡ suc n - 1 = omega arith in
    let counted : tasks + task_count all ≡ tasks + suc n * t = omega (arith, ap task_count (sym (append-nil all)), tasks_turns (suc n) 0 every tasks body []) in
    let ends : last_from last all ≡ (suc n - 1) * every + last_from last (pass 0 tasks tasks body) =
    last_whole n every tasks last body plain size ∙ ap (λ (k : ℕ). k * every + last_from last (pass 0 tasks tasks body)) same in
    let after_all : IsOrderlyFrom (tasks + suc n * t) (last_from last all) ys = subst (λ (k : ℕ). IsOrderlyFrom k (last_from last all) ys) counted (order_behind tasks last all ys order) in
    let behind : IsOrderlyFrom (tasks + suc n * t) ((suc n - 1) * every + last_from last (pass 0 tasks tasks body)) ys = subst (λ (k : ℕ). IsOrderlyFrom (tasks + suc n * t) k ys) ends after_all in
    let zero_more : 0 + length body ≡ length body = omega arith in
    let made : suc n * (0 + length body) ≡ suc n * length body = ap (λ (k : ℕ). suc n * k) zero_more in
    record {
      begin = first_call_moment (pass 0 tasks tasks body);
      first_is = λ more. absurd (omega (arith, more));
      begins_at = λ e. refl;
      some = omega (arith, size);
      low = omega arith;
      few = omega (arith, room);
      others = iterations n (0 + 1) every body (tasks + t) ++ ys;
      order = subst (λ (b : ℕ). IsOrderlyFrom tasks last (pass b tasks tasks body ++ (iterations n (0 + 1) every body (tasks + t) ++ ys))) zeros (turn_first n 0 every tasks last body ys order);
      late = subst (λ (k : ℕ). AreInTime (k * every) body) none (last_in_time n 0 every tasks last body ys plain order);
      fits = apart n every tasks last body ys plain size order;
      room = omega (arith, room, length-append all ys, length_turns (suc n) 0 every tasks body plain, made, ap (λ (k : ℕ). length (calls_from true k is)) total);
      behind = subst (λ (k : ℕ). IsOrderlyFrom k ((suc n - 1) * every + last_from last (pass 0 tasks tasks body)) (calls_from true k is)) total behind;
    }

-- where the rest of a loop is accepted, so is the loop
loop_accepts : (times every calls tasks last : ℕ) (is : List Instr) → 1 ≤ times → times ≤ 65536 → every ≤ 2 ^ 62 → BeginsWithCall is → IsShaped true is
    → IsOrderlyFrom tasks last (iterations times 0 every (body_of is) tasks ++ calls_from true (tasks + times * tasks_in (body_of is)) is)
    → calls + length (iterations times 0 every (body_of is) tasks ++ calls_from true (tasks + times * tasks_in (body_of is)) is) ≤ 65536
    → Goal (Some (record { times = times; every = every; start = tasks; calls = 0; first = 0 })) calls tasks last is
    → first_fault (met_out calls tasks last) (Loop times every ∷ is) ≡ None
loop_accepts zero every calls tasks last is least most short starts shape order room rest = absurd (omega (arith, least))
loop_accepts (suc n) every calls tasks last is least most short starts shape order room rest =
    let fine : Passes (met_out calls tasks last) (Loop (suc n) every) is = record { early = refl; nested = refl; unclosed = refl; empty = refl; task = refl; large = le-ltb _ _ short; order = refl; many = or_from _ _ (le-ltb _ _ least) (le-ltb _ _ most) } in
    passes_on (met_out calls tasks last) (Loop (suc n) every) is fine (rest (loop_within n every calls tasks last is starts shape order room))

-- the end of a loop
end_accepts : (r : OpenLoop) (calls tasks last : ℕ) (is : List Instr) → Within r calls tasks last (EndLoop ∷ is)
    → Goal None (calls + r.times * r.calls) (r.start + r.times * (tasks - r.start)) ((r.times - 1) * r.every + last) is → first_fault (met_in r calls tasks last) (EndLoop ∷ is) ≡ None
end_accepts r calls tasks last is w rest =
    let some : 1 ≤ r.calls = omega (arith, w.some) in
    let all : r.calls + 0 ≡ r.calls = omega arith in
    let made : r.times * (r.calls + 0) ≡ r.times * r.calls = ap (λ (n : ℕ). r.times * n) all in
    let same : tasks + 0 ≡ tasks = omega arith in
    let order = subst (λ (n : ℕ). IsOrderlyFrom (r.start + r.times * (n - r.start)) ((r.times - 1) * r.every + last) (calls_from false (r.start + r.times * (n - r.start)) is)) same w.behind in
    let room : calls + r.times * r.calls + length (calls_from false (r.start + r.times * (tasks - r.start)) is) ≤ 65536 = omega (arith, w.room, made, ap (λ (n : ℕ). length (calls_from false (r.start + r.times * (n - r.start)) is)) same) in
    let fine : Passes (met_in r calls tasks last) EndLoop is = record {
      early = refl;
      nested = refl;
      unclosed = refl;
      empty = not_none r.calls some;
      task = refl;
      large = refl;
      order = and_no r.times (r.first + r.every) last (λ more. omega (arith, w.fits more, w.first_is some));
      many = le-ltb 65536 (calls + r.times * r.calls) (omega (arith, room));
    } in
    passes_on (met_in r calls tasks last) EndLoop is fine (rest order room)

aimed_inside : (r : OpenLoop) (calls tasks last : ℕ) (i : Instr) → r.start ≤ tasks → IsAimed r.start tasks i → walk_bad_task (met_in r calls tasks last) i ≡ false
aimed_inside r calls tasks last (CancelFixed offset task) low aimed = leb_not tasks task aimed
aimed_inside r calls tasks last (CancelHere offset nth) low aimed = leb_not (tasks - r.start) nth (omega (arith, low, aimed))
aimed_inside r calls tasks last i low aimed = refl

accepts : (open_loop : Option OpenLoop) (calls tasks last : ℕ) (is : List Instr) → IsShaped (is_some open_loop) is → Goal open_loop calls tasks last is
accepts None calls tasks last [] shape = absurd shape
accepts (Some r) calls tasks last [] shape = absurd shape
accepts None calls tasks last (Halt ∷ is) shape = λ order room.
    none_fails (met_out calls tasks last) Halt is (record { early = rw shape refl; nested = refl; unclosed = refl; empty = refl; task = refl; large = refl; order = refl; many = refl })
accepts (Some r) calls tasks last (Halt ∷ is) shape = absurd shape
accepts None calls tasks last (Loop times every ∷ is) shape = λ order room.
    loop_accepts times every calls tasks last is shape.0 shape.1 shape.2 shape.3 shape.4 order room
    (accepts (Some (record { times = times; every = every; start = tasks; calls = 0; first = 0 })) calls tasks last is shape.4)
accepts (Some r) calls tasks last (Loop times every ∷ is) shape = absurd shape
accepts None calls tasks last (EndLoop ∷ is) shape = absurd shape
accepts (Some r) calls tasks last (EndLoop ∷ is) shape = λ w.
    end_accepts r calls tasks last is w (accepts None (calls + r.times * r.calls) (r.start + r.times * (tasks - r.start)) ((r.times - 1) * r.every + last) is shape)
accepts None calls tasks last (CancelHere offset nth ∷ is) shape = absurd shape
accepts None calls tasks last (CancelFixed offset task ∷ is) shape = λ order room.
    let i = CancelFixed offset task in
    let p = met_out calls tasks last in
    let o = opened 0 0 tasks last i (calls_from false (tasks + 0) is) refl order in
    let e : 0 + offset ≡ offset = omega arith in
    passes_on p i is
    (call_passes p i is refl o.short o.high (omega (arith, o.low)) (omega (arith, room)) (leb_not tasks task o.aimed))
    (accepts None (calls + 1) (tasks + 0) offset is shape (subst (λ (n : ℕ). IsOrderlyFrom (tasks + 0) n (calls_from false (tasks + 0) is)) e o.behind) (omega (arith, room)))
accepts None calls tasks last (i ∷ is) shape = λ order room.
    let p = met_out calls tasks last in
    let o = opened 0 0 tasks last i (calls_from false (tasks + tasks_by i) is) refl order in
    let e : 0 + offset_of i ≡ offset_of i = omega arith in
    let size = length_call i 0 0 tasks (calls_from false (tasks + tasks_by i) is) refl in
    passes_on p i is
    (call_passes p i is refl o.short o.high (omega (arith, o.low)) (omega (arith, room, size)) refl)
    (accepts None (calls + 1) (tasks + tasks_by i) (offset_of i) is shape (subst (λ (n : ℕ). IsOrderlyFrom (tasks + tasks_by i) n (calls_from false (tasks + tasks_by i) is)) e o.behind) (omega (arith, room, size)))
accepts (Some r) calls tasks last (i ∷ is) shape = λ w.
    let p = met_in r calls tasks last in
    let body = body_of is in
    let o = opened_pass 0 r.start tasks last i body w.others refl w.order in
    let e : 0 + offset_of i ≡ offset_of i = omega arith in
    let next : OpenLoop = record r { calls = r.calls + 1; first = cond (eqb r.calls 0) (offset_of i) r.first } in
    let size : r.calls + suc (length body) ≡ r.calls + 1 + length body = omega arith in
    let made : tasks + (tasks_by i + tasks_in body) ≡ tasks + tasks_by i + tasks_in body = omega arith in
    let ends : last_from last (pass 0 r.start tasks (i ∷ body)) ≡ last_from (offset_of i) (pass 0 r.start (tasks + tasks_by i) body) =
    last_call last 0 r.start tasks i (pass 0 r.start (tasks + tasks_by i) body) refl ∙ ap (λ (n : ℕ). last_from n (pass 0 r.start (tasks + tasks_by i) body)) e in
    let end : ℕ → ℕ = λ (n : ℕ). r.start + r.times * (n - r.start) in
    let behind : IsOrderlyFrom (end (tasks + (tasks_by i + tasks_in body))) ((r.times - 1) * r.every + last_from last (pass 0 r.start tasks (i ∷ body))) (calls_from true (end (tasks + (tasks_by i + tasks_in body))) is) = w.behind in
    let ended : IsOrderlyFrom (end (tasks + tasks_by i + tasks_in body)) ((r.times - 1) * r.every + last_from last (pass 0 r.start tasks (i ∷ body))) (calls_from true (end (tasks + tasks_by i + tasks_in body)) is) =
    subst (λ (n : ℕ). IsOrderlyFrom (end n) ((r.times - 1) * r.every + last_from last (pass 0 r.start tasks (i ∷ body))) (calls_from true (end n) is)) made behind in
    let all : r.times * (r.calls + suc (length body)) ≡ r.times * (r.calls + 1 + length body) = ap (λ (n : ℕ). r.times * n) size in
    passes_on p i is
    (call_passes p i is refl o.short w.late.0 (omega (arith, o.low)) w.few (aimed_inside r calls tasks last i w.low o.aimed))
    (accepts (Some next) calls (tasks + tasks_by i) (offset_of i) is shape (record {
      begin = w.begin;
      first_is = λ more. first_next r.calls (offset_of i) r.first w.begin (λ none. sym e ∙ sym (first_call 0 r.start tasks i (pass 0 r.start (tasks + tasks_by i) body) refl) ∙ w.begins_at none) w.first_is;
      begins_at = λ none. absurd (omega (arith, none));
      some = omega arith;
      low = omega (arith, w.low);
      few = w.few;
      others = w.others;
      order = subst (λ (n : ℕ). IsOrderlyFrom (tasks + tasks_by i) n (pass 0 r.start (tasks + tasks_by i) body ++ w.others)) e o.behind;
      late = w.late.1;
      fits = λ more. omega (arith, w.fits more, ends);
      room = omega (arith, w.room, all, ap (λ (n : ℕ). length (calls_from true (end n) is)) made);
      behind = subst (λ (n : ℕ). IsOrderlyFrom (end (tasks + tasks_by i + tasks_in body)) ((r.times - 1) * r.every + n) (calls_from true (end (tasks + tasks_by i + tasks_in body)) is)) ends ended;
    }))

-- a list is accepted exactly where it has the shape of a code and its calls are in order
pub accepted_exactly : AcceptedExactly
accepted_exactly code timed = (
  λ none. (shaped None 0 0 0 code (sym (fault_is code) ∙ none), (sound code timed none).order),
  λ fits. fault_is code ∙ accepts None 0 0 0 code fits.0 fits.1.1 (omega (arith, fits.1.0)),
)
