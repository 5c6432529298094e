-- The submissions of a plan beside its calls.
use Rattle.std.proofs.Common.{◌≡◌, ◌⊎◌, ℕ, zero, suc, ◌+◌, ◌*◌, ◌≤◌, List, [], ◌∷◌, ◌++◌, map, length, Some, None, inl, inr, refl, sym, ap, ◌∙◌, subst, arith, append-nil}
use Rattle.std.proofs.lemmas.List.{map-append, length-map}
use Rattle.std.specs.Prelude.{flat_map, option_to_list}
use Rattle.std.specs.List.{range_with_len}
use Rattle.std.proofs.lemmas.List.Concat.{flat_map-append}
use Rattle.queue_code.specs.declared.call.CodeCall.TheVariants as made
use Rattle.queue_code.specs.Calls.{Planned, task_count, count_after, IsOrderlyFrom}
use Rattle.plan_read.specs.declared.plans.Call.{Call}
use Rattle.plan_read.specs.declared.plans.Op.{Op}
use Rattle.plan_read.specs.declared.plans.Op.TheVariants as ops
use Rattle.plan_read.specs.Plans.{BlockTree, PlanTree, name_of, names_of, tasks_after, tasks_after_calls, IsOrdered}
use Rattle.plan_compile.specs.PlanCalls.{code_call, calls_at, block_tasks, block_iteration, block_iterations, calls_of_blocks, calls_of_plan}
use Rattle.plan_compile.proofs.Counting.{tasks_after_calls-from, times-suc}
use Rattle.plan_compile.proofs.Ordering.{plan_orderly}
use Rattle.plan_compile.specs.Submissions.{Submitted, Timed, ops_at, iteration_ops, block_ops, plan_ops, submission_by, submitted_from, submissions_of_plan}
use Rattle.plan_compile.specs.SubmissionLaws.{Told, told_by, told_by_call, block_names, AreThoseOfTheCalls, AreNumberedInOrder, AreNamedAsWritten}
use Rattle.plan_compile.specs.own.Places.{AreInTime}
use Rattle.plan_compile.proofs.Ops.{range_more}

-- ---- one operation

-- an operation submits a task, which then has the next number and the operation's name, or none
submits_or_not : (task moment : ℕ) (op : Op) →
    ((submission_by task moment op ≡ None) × (tasks_after task op ≡ task) × (name_of op ≡ None))
    ⊎ ((s : Submitted) × (submission_by task moment op ≡ Some s) × (tasks_after task op ≡ task + 1) × (name_of op ≡ Some s.name) × (s.task ≡ task))
submits_or_not task moment (ops.Schedule name delay) = inr (_, refl, refl, refl, refl)
submits_or_not task moment (ops.Execute name) = inr (_, refl, refl, refl, refl)
submits_or_not task moment (ops.Rate name first period) = inr (_, refl, refl, refl, refl)
submits_or_not task moment (ops.Fixed name first delay) = inr (_, refl, refl, refl, refl)
submits_or_not task moment op = inl (refl, refl, refl)

-- the call of an operation tells what the operation does
call_tells : (firsts : List ℕ) (start task moment : ℕ) (op : Op) → told_by_call (moment, code_call firsts start task op) ≡ map told_by (option_to_list (submission_by task moment op))
call_tells firsts start task moment (ops.Schedule name delay) = refl
call_tells firsts start task moment (ops.Execute name) = let e : moment + 0 ≡ moment = omega arith in rw e refl
call_tells firsts start task moment (ops.Rate name first (Some period)) = refl
call_tells firsts start task moment (ops.Rate name first None) = refl
call_tells firsts start task moment (ops.Fixed name first (Some delay)) = refl
call_tells firsts start task moment (ops.Fixed name first None) = refl
call_tells firsts start task moment op = refl

-- ---- calls beside operations

-- how many submissions there are up to and with some operations
abbrev after_ops : ℕ → List Timed → ℕ
after_ops task [] = task
after_ops task (o ∷ os) = after_ops (tasks_after task o.1) os

-- calls beside operations, before which `task` submissions stand: one by one they have the same moments, and tell the same
abbrev Beside : ℕ → List Planned → List Timed → Type 0
Beside task [] [] = Unit {0}
Beside task (p ∷ ps) (o ∷ os) = (p.0 ≡ o.0) × (told_by_call p ≡ map told_by (option_to_list (submission_by task o.0 o.1))) × Beside (tasks_after task o.1) ps os
Beside task [] (o ∷ os) = ⊥
Beside task (p ∷ ps) [] = ⊥

after_append : (task : ℕ) (xs ys : List Timed) → after_ops task (xs ++ ys) ≡ after_ops (after_ops task xs) ys
after_append task [] ys = refl
after_append task (o ∷ os) ys = after_append (tasks_after task o.1) os ys

beside_append : (task : ℕ) (ps qs : List Planned) (xs ys : List Timed) → Beside task ps xs → Beside (after_ops task xs) qs ys → Beside task (ps ++ qs) (xs ++ ys)
beside_append task [] qs [] ys h k = k
beside_append task (p ∷ ps) qs (o ∷ os) ys h k = (h.0, h.1, beside_append (tasks_after task o.1) ps qs os ys h.2 k)
beside_append task [] qs (o ∷ os) ys h k = absurd h
beside_append task (p ∷ ps) qs [] ys h k = absurd h

after_calls : (task base : ℕ) (cs : List Call) → after_ops task (ops_at base cs) ≡ tasks_after_calls task cs
after_calls task base [] = refl
after_calls task base (c ∷ cs) = after_calls (tasks_after task c.op) base cs

calls_beside : (firsts : List ℕ) (base start task : ℕ) (cs : List Call) → Beside task (calls_at firsts base start task cs) (ops_at base cs)
calls_beside firsts base start task [] = tt
calls_beside firsts base start task (c ∷ cs) = (refl, call_tells firsts start task (base + c.at) c.op, calls_beside firsts base start (tasks_after task c.op) cs)

-- ---- iterations and blocks

ops_more : (b : BlockTree) (n : ℕ) → flat_map (iteration_ops b) (range_with_len 0 (suc n)) ≡ flat_map (iteration_ops b) (range_with_len 0 n) ++ iteration_ops b n
ops_more b n =
    let e : 0 + n ≡ n = omega arith in
    ap (flat_map (iteration_ops b)) (rw e at (range_more 0 n)) ∙ (flat_map-append (iteration_ops b) (range_with_len 0 n) (n ∷ []) ∙ ap (λ (xs : List Timed). flat_map (iteration_ops b) (range_with_len 0 n) ++ xs) (append-nil (iteration_ops b n)))

iterations_after : (first : ℕ) (b : BlockTree) (n : ℕ) → after_ops first (flat_map (iteration_ops b) (range_with_len 0 n)) ≡ first + n * block_tasks b
iterations_after first b zero = omega arith
iterations_after first b (suc n) =
    ap (after_ops first) (ops_more b n)
    ∙ (after_append first (flat_map (iteration_ops b) (range_with_len 0 n)) (iteration_ops b n)
    ∙ (ap (λ (k : ℕ). after_ops k (iteration_ops b n)) (iterations_after first b n)
    ∙ (after_calls (first + n * block_tasks b) (b.header.at + n * b.header.every) b.calls
    ∙ omega (arith, tasks_after_calls-from (first + n * block_tasks b) b.calls, times-suc n (block_tasks b)))))

iterations_beside : (firsts : List ℕ) (first : ℕ) (b : BlockTree) (n : ℕ) → Beside first (block_iterations firsts first b n) (flat_map (iteration_ops b) (range_with_len 0 n))
iterations_beside firsts first b zero = tt
iterations_beside firsts first b (suc n) =
    let start = first + n * block_tasks b in
    let one = calls_beside firsts (b.header.at + n * b.header.every) start start b.calls in
    let next = subst (λ (k : ℕ). Beside k (block_iteration firsts first b n) (iteration_ops b n)) (sym (iterations_after first b n)) one in
    subst (Beside first (block_iterations firsts first b (suc n))) (sym (ops_more b n))
    (beside_append first (block_iterations firsts first b n) (block_iteration firsts first b n) (flat_map (iteration_ops b) (range_with_len 0 n)) (iteration_ops b n) (iterations_beside firsts first b n) next)

blocks_beside : (firsts : List ℕ) (first : ℕ) (bs : PlanTree) → Beside first (calls_of_blocks firsts first bs) (plan_ops bs)
blocks_beside firsts first [] = tt
blocks_beside firsts first (b ∷ bs) =
    let more = first + b.header.times * block_tasks b in
    let rest = blocks_beside (firsts ++ first ∷ []) more bs in
    let next = subst (λ (k : ℕ). Beside k (calls_of_blocks (firsts ++ first ∷ []) more bs) (plan_ops bs)) (sym (iterations_after first b b.header.times)) rest in
    beside_append first (block_iterations firsts first b b.header.times) (calls_of_blocks (firsts ++ first ∷ []) more bs) (block_ops b) (plan_ops bs) (iterations_beside firsts first b b.header.times) next

plan_beside : (plan : PlanTree) → Beside 0 (calls_of_plan plan) (plan_ops plan)
plan_beside plan = blocks_beside [] 0 plan

-- ---- what follows of them

beside_tells : (task : ℕ) (ps : List Planned) (os : List Timed) → Beside task ps os → map told_by (submitted_from task os) ≡ flat_map told_by_call ps
beside_tells task [] [] h = refl
beside_tells task (p ∷ ps) (o ∷ os) h =
    map-append told_by (option_to_list (submission_by task o.0 o.1)) (submitted_from (tasks_after task o.1) os)
    ∙ (ap (λ (xs : List Told). xs ++ map told_by (submitted_from (tasks_after task o.1) os)) (sym h.1)
    ∙ ap (λ (xs : List Told). told_by_call p ++ xs) (beside_tells (tasks_after task o.1) ps os h.2))
beside_tells task [] (o ∷ os) h = absurd h
beside_tells task (p ∷ ps) [] h = absurd h

beside_in_time : (task count moment : ℕ) (ps : List Planned) (os : List Timed) → Beside task ps os → IsOrderlyFrom count moment ps → AreInTime os
beside_in_time task count moment [] [] h ordered = tt
beside_in_time task count moment (p ∷ ps) (o ∷ os) h ordered = (rw h.0 at ordered.1, beside_in_time (tasks_after task o.1) (count_after count p.1) p.0 ps os h.2 ordered.3)
beside_in_time task count moment [] (o ∷ os) h ordered = absurd h
beside_in_time task count moment (p ∷ ps) [] h ordered = absurd h

beside_length : (task : ℕ) (ps : List Planned) (os : List Timed) → Beside task ps os → length os ≡ length ps
beside_length task [] [] h = refl
beside_length task (p ∷ ps) (o ∷ os) h = ap suc (beside_length (tasks_after task o.1) ps os h.2)
beside_length task [] (o ∷ os) h = absurd h
beside_length task (p ∷ ps) [] h = absurd h

-- no more submissions than operations
submitted_few : (task : ℕ) (os : List Timed) → length (submitted_from task os) ≤ length os
submitted_few task [] = omega arith
submitted_few task (o ∷ os) =
    elim (submits_or_not task o.0 o.1) [
      | inl e ↦ rw e.0 (omega (arith, submitted_few (tasks_after task o.1) os))
      | inr e ↦ rw e.1 (omega (arith, submitted_few (tasks_after task o.1) os))
    ]

-- no moment of a plan is above the limit
pub plan_in_time : (plan : PlanTree) → IsOrdered plan → AreInTime (plan_ops plan)
plan_in_time plan ordered = beside_in_time 0 0 0 (calls_of_plan plan) (plan_ops plan) (plan_beside plan) (plan_orderly plan ordered).1

-- a plan has at most 65,536 submissions
pub plan_few : (plan : PlanTree) → IsOrdered plan → length (submissions_of_plan plan) ≤ 65536
plan_few plan ordered = omega (arith, submitted_few 0 (plan_ops plan), beside_length 0 (calls_of_plan plan) (plan_ops plan) (plan_beside plan), (plan_orderly plan ordered).0)

-- ---- the laws

pub told_alike : AreThoseOfTheCalls
told_alike plan = beside_tells 0 (calls_of_plan plan) (plan_ops plan) (plan_beside plan)

-- numbers ascend one by one
ascending : (task : ℕ) (os : List Timed) → map (λ (s : Submitted). s.task) (submitted_from task os) ≡ range_with_len task (length (submitted_from task os))
ascending task [] = refl
ascending task (o ∷ os) =
    elim (submits_or_not task o.0 o.1) [
      | inl e ↦ rw (e.0, e.1) (ascending task os)
      | inr e ↦ rw (e.1, e.2, e.4) (ap (λ (xs : List ℕ). task ∷ xs) (ascending (task + 1) os))
    ]

-- one is told for each submission among calls
told_count : (ps : List Planned) → length (flat_map told_by_call ps) ≡ task_count ps
told_count [] = refl
told_count ((moment, made.Submit task timing delay) ∷ ps) = omega (arith, told_count ps)
told_count ((moment, made.Illegal task) ∷ ps) = omega (arith, told_count ps)
told_count ((moment, call) ∷ ps) = told_count ps

pub numbered : AreNumberedInOrder
numbered plan =
    let many : length (submissions_of_plan plan) ≡ task_count (calls_of_plan plan) =
    sym (length-map (submissions_of_plan plan) told_by) ∙ (ap length (told_alike plan) ∙ told_count (calls_of_plan plan)) in
    rw (← many) (ascending 0 (plan_ops plan))

-- the names of operations
abbrev ops_names : List Timed → List (List ℕ)
ops_names os = flat_map (λ (o : Timed). option_to_list (name_of o.1)) os

names_alike : (task : ℕ) (os : List Timed) → map (λ (s : Submitted). s.name) (submitted_from task os) ≡ ops_names os
names_alike task [] = refl
names_alike task (o ∷ os) =
    elim (submits_or_not task o.0 o.1) [
      | inl e ↦ rw (e.0, e.2) (names_alike task os)
      | inr e ↦ rw (e.1, e.3) (ap (λ (xs : List (List ℕ)). e.0.name ∷ xs) (names_alike (task + 1) os))
    ]

names_at : (base : ℕ) (cs : List Call) → ops_names (ops_at base cs) ≡ names_of cs
names_at base [] = refl
names_at base (c ∷ cs) =
    elim (submits_or_not 0 0 c.op) [
      | inl e ↦ rw e.2 (names_at base cs)
      | inr e ↦ rw e.3 (ap (λ (xs : List (List ℕ)). e.0.name ∷ xs) (names_at base cs))
    ]

names_of_iterations : (b : BlockTree) (rs : List ℕ) → ops_names (flat_map (iteration_ops b) rs) ≡ flat_map (λ (r : ℕ). names_of b.calls) rs
names_of_iterations b [] = refl
names_of_iterations b (r ∷ rs) =
    flat_map-append (λ (o : Timed). option_to_list (name_of o.1)) (iteration_ops b r) (flat_map (iteration_ops b) rs)
    ∙ (ap (λ (xs : List (List ℕ)). xs ++ ops_names (flat_map (iteration_ops b) rs)) (names_at (b.header.at + r * b.header.every) b.calls)
    ∙ ap (λ (xs : List (List ℕ)). names_of b.calls ++ xs) (names_of_iterations b rs))

names_of_blocks : (bs : PlanTree) → ops_names (plan_ops bs) ≡ flat_map block_names bs
names_of_blocks [] = refl
names_of_blocks (b ∷ bs) =
    flat_map-append (λ (o : Timed). option_to_list (name_of o.1)) (block_ops b) (plan_ops bs)
    ∙ (ap (λ (xs : List (List ℕ)). xs ++ ops_names (plan_ops bs)) (names_of_iterations b (range_with_len 0 b.header.times))
    ∙ ap (λ (xs : List (List ℕ)). block_names b ++ xs) (names_of_blocks bs))

pub named : AreNamedAsWritten
named plan = names_alike 0 (plan_ops plan) ∙ names_of_blocks plan
