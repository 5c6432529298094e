-- The calls of a plan are in order.
use Rattle.std.proofs.Common.{◌≡◌, ◌⊎◌, ℕ, zero, suc, ◌+◌, ◌-◌, ◌*◌, ◌^◌, ◌≤◌, ◌<◌, List, [], ◌∷◌, ◌++◌, length, Some, None, refl, sym, subst, inl, inr, arith, length-append}
use Rattle.std.specs.Prelude.{slice_get}
use Rattle.std.proofs.lemmas.Bool.{cases_Bool}
use Rattle.std.proofs.lemmas.Nat.{mul-le}
use Rattle.std.proofs.lemmas.Option.{slice_get_within, slice_get_past}
use Rattle.queue_code.specs.Calls.{count_after, IsOrderlyCall, IsPlanned}
use Rattle.plan_read.specs.declared.plans.Call.{Call}
use Rattle.plan_read.specs.declared.plans.Header.{Header}
use Rattle.plan_read.specs.declared.plans.Op.{Op}
use Rattle.plan_read.specs.declared.plans.Op.TheVariants as ops
use Rattle.plan_read.specs.declared.plans.Target.{Target}
use Rattle.plan_read.specs.Plans.{BlockTree, PlanTree, is_submission, names_of, tasks_after, tasks_after_calls, last_offset, last_offset_from, end_of, end_of_block, made_by, made_from, IsWithinLimits, StandsBefore, IsAimed, AreCallsAfter, IsBlockAfter, AreBlocksAfter, IsOrdered}
use Rattle.plan_read.proofs.Accepted.{end_from_one_more, made_from_one_more}
use Rattle.plan_read.proofs.Naming.{tasks_after-one_more}
use Rattle.plan_compile.specs.PlanCalls.{target_number, code_call, calls_at, block_tasks, block_iteration, block_iterations, calls_of_blocks, calls_of_plan}
use Rattle.plan_compile.specs.own.PlanCode.{IsBelow}
use Rattle.plan_compile.proofs.Counting.{tasks_after_calls-from, length-names_of, length-calls_from, times-suc}
use Rattle.plan_compile.proofs.Runs.{Runs, runs_orderly, runs_earlier, runs_later, runs_append}

-- ---- the first numbers of blocks

-- the first numbers of some blocks, all of whose submissions have numbers below `first`
pub record AreFirsts (earlier : PlanTree) (firsts : List ℕ) (first : ℕ) : Type 0 where
  pub count : length firsts ≡ length earlier
  pub each : (i : ℕ) (b : BlockTree) → slice_get earlier i ≡ Some b → (f : ℕ) × (slice_get firsts i ≡ Some f) × (f + block_tasks b ≤ first)

get_kept : {A : Type 0} (xs : List A) (y x : A) (i : ℕ) → slice_get xs i ≡ Some x → slice_get (xs ++ y ∷ []) i ≡ Some x
get_kept [] y x i h = absurd (cc)
get_kept (z ∷ xs) y x zero h = h
get_kept (z ∷ xs) y x (suc i) h = get_kept xs y x i h

length-snoc : {A : Type 0} (xs : List A) (y : A) → length (xs ++ y ∷ []) ≡ length xs + 1
length-snoc xs y = length-append xs (y ∷ [])

get_last : {A : Type 0} (xs : List A) (y : A) → slice_get (xs ++ y ∷ []) (length xs) ≡ Some y
get_last [] y = refl
get_last (x ∷ xs) y = get_last xs y

get_either : {A : Type 0} (xs : List A) (y x : A) (i : ℕ) → slice_get (xs ++ y ∷ []) i ≡ Some x → (slice_get xs i ≡ Some x) ⊎ ((i ≡ length xs) × (y ≡ x))
get_either [] y x zero h = inr (refl, cc)
get_either [] y x (suc i) h = absurd (cc)
get_either (z ∷ xs) y x zero h = inl h
get_either (z ∷ xs) y x (suc i) h = elim (get_either xs y x i h) [ inl k ↦ inl k | inr k ↦ inr (omega (arith, k.0), k.1) ]

-- more submissions may come
firsts_more : (earlier : PlanTree) (firsts : List ℕ) (first more : ℕ) → first ≤ more → AreFirsts earlier firsts first → AreFirsts earlier firsts more
firsts_more earlier firsts first more le a = record {
  count = a.count;
  each = λ i b at. (let r = a.each i b at in (r.0, r.1, omega (arith, le, r.2)));
}

-- before any block
pub firsts_start : AreFirsts [] [] 0
firsts_start = record { count = refl; each = λ i b at. absurd (cc) }

-- one more block
pub firsts_next : (earlier : PlanTree) (firsts : List ℕ) (first : ℕ) (b : BlockTree) → 1 ≤ b.header.times → AreFirsts earlier firsts first
    → AreFirsts (earlier ++ b ∷ []) (firsts ++ first ∷ []) (first + b.header.times * block_tasks b)
firsts_next earlier firsts first b least a =
    let grows : block_tasks b ≤ b.header.times * block_tasks b = omega (arith, mul-le 1 (block_tasks b) b.header.times (block_tasks b) least (omega arith)) in
    record {
      count = rw (length-snoc firsts first, length-snoc earlier b, a.count) refl;
      each = λ i d at. elim (get_either earlier b d i at) [
        | inl k ↦ (let r = a.each i d k in (r.0, get_kept firsts first r.0 i r.1, omega (arith, r.2)))
        | inr k ↦ (
            let here : slice_get (firsts ++ first ∷ []) i ≡ Some first = rw (k.0, ← a.count) (get_last firsts first) in
            (first, here, rw (← k.1) (omega (arith, grows))))
      ];
    }

-- ---- one call

target_below : (earlier : PlanTree) (firsts : List ℕ) (start : ℕ) (before : List Call) (name : List ℕ) (target : Target) → AreFirsts earlier firsts start
    → StandsBefore earlier before name target → target_number firsts start target < start + tasks_after_calls 0 before
target_below earlier firsts start before name target a (inl here) =
    let none : slice_get firsts target.block ≡ None = slice_get_past firsts target.block (omega (arith, a.count, here.0)) in
    let within = slice_get_within (names_of before) target.sub name here.1 in
    rw none (omega (arith, within, length-names_of 0 before))
target_below earlier firsts start before name target a (inr there) =
    let r = a.each target.block there.0 there.1 in
    let within = slice_get_within (names_of there.0.calls) target.sub name there.3 in
    rw r.1 (omega (arith, r.2, within, length-names_of 0 there.0.calls))

-- an aimed call names a task that is made before it
pub op_below : (earlier : PlanTree) (firsts : List ℕ) (start task : ℕ) (before : List Call) (op : Op) → AreFirsts earlier firsts start → task ≡ start + tasks_after_calls 0 before
    → IsAimed earlier before op → IsBelow firsts start task op
op_below earlier firsts start task before (ops.Cancel target) a is aimed = rw is (target_below earlier firsts start before aimed.0 target a aimed.1)
op_below earlier firsts start task before op a is aimed = tt

-- the call of an operation is in order
call_orderly : (firsts : List ℕ) (start task : ℕ) (op : Op) → IsWithinLimits op → IsBelow firsts start task op → IsOrderlyCall task (code_call firsts start task op)
call_orderly firsts start task (ops.Schedule name delay) limits below = (refl, limits, tt)
call_orderly firsts start task (ops.Execute name) limits below = (refl, omega arith, tt)
call_orderly firsts start task (ops.Rate name first (Some period)) limits below = (refl, limits.0, limits.1.1)
call_orderly firsts start task (ops.Rate name first None) limits below = refl
call_orderly firsts start task (ops.Fixed name first (Some delay)) limits below = (refl, limits.0, limits.1.1)
call_orderly firsts start task (ops.Fixed name first None) limits below = refl
call_orderly firsts start task (ops.Cancel target) limits below = below
call_orderly firsts start task op limits below = tt

-- a call counts the task that its operation submits
call_counts : (firsts : List ℕ) (start task : ℕ) (op : Op) → count_after task (code_call firsts start task op) ≡ tasks_after task op
call_counts firsts start task (ops.Rate name first (Some period)) = refl
call_counts firsts start task (ops.Rate name first None) = refl
call_counts firsts start task (ops.Fixed name first (Some delay)) = refl
call_counts firsts start task (ops.Fixed name first None) = refl
call_counts firsts start task op = refl

-- ---- one iteration

-- the last offset, with one call more, is that call's
pub last_offset-one_more : (offset : ℕ) (cs : List Call) (c : Call) → last_offset_from offset (cs ++ c ∷ []) ≡ c.at
last_offset-one_more offset [] c = refl
last_offset-one_more offset (d ∷ cs) c = last_offset-one_more d.at cs c

tasks_after-shifted : (start n : ℕ) (op : Op) → tasks_after (start + n) op ≡ start + tasks_after n op
tasks_after-shifted start n op = elim (cases_Bool (is_submission op)) [ inl t ↦ rw t (omega arith) | inr f ↦ rw f refl ]

-- how many submissions stand before the next call
pub count_next : (first task : ℕ) (before : List Call) (c : Call) → task ≡ first + tasks_after_calls 0 before → tasks_after task c.op ≡ first + tasks_after_calls 0 (before ++ c ∷ [])
count_next first task before c is = rw (is, tasks_after-one_more 0 before c) (tasks_after-shifted first (tasks_after_calls 0 before) c.op)

calls_run : (earlier : PlanTree) (h : Header) (firsts : List ℕ) (base start : ℕ) (before cs : List Call) (task offset : ℕ)
    → AreCallsAfter earlier h before cs → AreFirsts earlier firsts start → base ≤ h.at + (h.times - 1) * h.every
    → task ≡ start + tasks_after_calls 0 before → offset ≡ last_offset before
    → Runs task (base + offset) (calls_at firsts base start task cs) (tasks_after_calls task cs) (base + last_offset_from offset cs)
calls_run earlier h firsts base start before [] task offset ordered a reach is last = (refl, omega arith)
calls_run earlier h firsts base start before (c ∷ cs) task offset ordered a reach is last =
    let one = ordered.0 in
    let short : base + c.at ≤ 2 ^ 62 = omega (arith, reach, one.last) in
    let forward : base + offset ≤ base + c.at = omega (arith, last, one.order) in
    let below = op_below earlier firsts start task before c.op a is one.aimed in
    let count = count_next start task before c is in
    let rest = calls_run earlier h firsts base start (before ++ c ∷ []) cs (tasks_after task c.op) c.at ordered.1 a reach count (sym (last_offset-one_more 0 before c)) in
    let end = base + last_offset_from c.at cs in
    let counted = sym (call_counts firsts start task c.op) in
    let behind = subst (λ (n : ℕ). Runs n (base + c.at) (calls_at firsts base start (tasks_after task c.op) cs) (tasks_after_calls task (c ∷ cs)) end) counted rest in
    (forward, short, call_orderly firsts start task c.op one.limits below, behind)

-- in a block that is repeated, an offset is no greater than its step
pub offset_within : (h : Header) (offset : ℕ) → 1 < h.times → (h.times ≤ 1) ⊎ (offset ≤ h.every) → offset ≤ h.every
offset_within h offset many (inl once) = absurd (omega (arith, many, once))
offset_within h offset many (inr within) = within

-- in a block that is repeated no call comes after the next iteration begins
last_within : (earlier : PlanTree) (h : Header) (before cs : List Call) (offset : ℕ) → AreCallsAfter earlier h before cs → 1 < h.times → offset ≤ h.every → last_offset_from offset cs ≤ h.every
last_within earlier h before [] offset ordered many le = le
last_within earlier h before (c ∷ cs) offset ordered many le = last_within earlier h (before ++ c ∷ []) cs c.at ordered.1 many (offset_within h c.at many ordered.0.within)

-- an iteration begins no later than the last
base_reach : (h : Header) (r : ℕ) → r < h.times → h.at + r * h.every ≤ h.at + (h.times - 1) * h.every
base_reach h r within = omega (arith, mul-le r h.every (h.times - 1) h.every (omega arith) (omega arith))

-- the calls of an iteration lead from its first number and its beginning to the numbers and the moment of its last call
iteration_runs : (earlier : PlanTree) (firsts : List ℕ) (first : ℕ) (b : BlockTree) (r : ℕ) → IsBlockAfter earlier b → AreFirsts earlier firsts first → r < b.header.times
    → Runs (first + r * block_tasks b) (b.header.at + r * b.header.every) (block_iteration firsts first b r) (first + suc r * block_tasks b) (b.header.at + r * b.header.every + last_offset b.calls)
iteration_runs earlier firsts first b r block a within =
    let start = first + r * block_tasks b in
    let base = b.header.at + r * b.header.every in
    let all = calls_run earlier b.header firsts base start [] b.calls start 0 block.calls (firsts_more earlier firsts first start (omega arith) a) (base_reach b.header r within) (omega arith) refl in
    let count : tasks_after_calls start b.calls ≡ first + suc r * block_tasks b = omega (arith, tasks_after_calls-from start b.calls, times-suc r (block_tasks b)) in
    let zero_at : base + 0 ≡ base = omega arith in
    rw (count, zero_at) at all

-- ---- one block

iterations_run : (earlier : PlanTree) (firsts : List ℕ) (first : ℕ) (b : BlockTree) (n : ℕ) → IsBlockAfter earlier b → AreFirsts earlier firsts first → n < b.header.times
    → Runs first b.header.at (block_iterations firsts first b n) (first + n * block_tasks b) (b.header.at + n * b.header.every)
iterations_run earlier firsts first b zero block a within = (omega arith, omega arith)
iterations_run earlier firsts first b (suc n) block a within =
    let before = iterations_run earlier firsts first b n block a (omega arith) in
    let one = iteration_runs earlier firsts first b n block a (omega arith) in
    let last = last_within earlier b.header [] b.calls 0 block.calls (omega arith) (omega arith) in
    let end : b.header.at + n * b.header.every + last_offset b.calls ≤ b.header.at + suc n * b.header.every = omega (arith, last, times-suc n b.header.every) in
    runs_append first b.header.at (block_iterations firsts first b n) (block_iteration firsts first b n) (first + n * block_tasks b) (b.header.at + n * b.header.every)
    (first + suc n * block_tasks b) (b.header.at + suc n * b.header.every) before
    (runs_later (first + n * block_tasks b) (b.header.at + n * b.header.every) (block_iteration firsts first b n) (first + suc n * block_tasks b) _ _ end one)

all_run : (earlier : PlanTree) (firsts : List ℕ) (first : ℕ) (b : BlockTree) (k : ℕ) → IsBlockAfter earlier b → AreFirsts earlier firsts first → b.header.times ≡ suc k
    → Runs first b.header.at (block_iterations firsts first b (suc k)) (first + suc k * block_tasks b) (b.header.at + k * b.header.every + last_offset b.calls)
all_run earlier firsts first b k block a is =
    runs_append first b.header.at (block_iterations firsts first b k) (block_iteration firsts first b k) (first + k * block_tasks b) (b.header.at + k * b.header.every)
    (first + suc k * block_tasks b) (b.header.at + k * b.header.every + last_offset b.calls)
    (iterations_run earlier firsts first b k block a (omega (arith, is))) (iteration_runs earlier firsts first b k block a (omega (arith, is)))

-- a block without calls makes none
pub no_iterations : (firsts : List ℕ) (first : ℕ) (h : Header) (n : ℕ) → block_iterations firsts first (record { header = h; calls = [] }) n ≡ []
no_iterations firsts first h zero = refl
no_iterations firsts first h (suc n) = rw (no_iterations firsts first h n) refl

block_runs : (earlier : PlanTree) (firsts : List ℕ) (first : ℕ) (h : Header) (calls : List Call) → IsBlockAfter earlier (record { header = h; calls = calls }) → AreFirsts earlier firsts first
    → Runs first (end_of earlier) (block_iterations firsts first (record { header = h; calls = calls }) h.times) (first + h.times * tasks_after_calls 0 calls) (end_of_block (end_of earlier) h calls)
block_runs earlier firsts first h [] block a = rw (no_iterations firsts first h h.times) (omega arith, omega arith)
block_runs earlier firsts first h (c ∷ cs) block a =
    let b : BlockTree = record { header = h; calls = c ∷ cs } in
    let k = h.times - 1 in
    let times : h.times ≡ suc k = omega (arith, block.least) in
    let all = all_run earlier firsts first b k block a times in
    let early = runs_earlier first (end_of earlier) h.at (block_iterations firsts first b (suc k)) (first + suc k * block_tasks b) (h.at + k * h.every + last_offset (c ∷ cs)) block.order all in
    subst (λ (n : ℕ). Runs first (end_of earlier) (block_iterations firsts first b n) (first + n * block_tasks b) (h.at + k * h.every + last_offset (c ∷ cs))) (sym times) early

-- ---- the whole plan

blocks_run : (earlier bs : PlanTree) (firsts : List ℕ) (first : ℕ) → AreBlocksAfter earlier bs → AreFirsts earlier firsts first
    → (after : ℕ) × (end : ℕ) × Runs first (end_of earlier) (calls_of_blocks firsts first bs) after end
blocks_run earlier [] firsts first ordered a = (first, end_of earlier, (refl, omega arith))
blocks_run earlier (b ∷ bs) firsts first ordered a =
    let one = block_runs earlier firsts first b.header b.calls ordered.0 a in
    let more = first + b.header.times * block_tasks b in
    let rest = blocks_run (earlier ++ b ∷ []) bs (firsts ++ first ∷ []) more ordered.1 (firsts_next earlier firsts first b ordered.0.least a) in
    let next : Runs more (end_of_block (end_of earlier) b.header b.calls) (calls_of_blocks (firsts ++ first ∷ []) more bs) rest.0 rest.1 = rw (end_from_one_more 0 earlier b) at rest.2 in
    (rest.0, rest.1, runs_append first (end_of earlier) (block_iterations firsts first b b.header.times) (calls_of_blocks (firsts ++ first ∷ []) more bs) more (end_of_block (end_of earlier) b.header b.calls) rest.0 rest.1 one next)

made_within : (earlier bs : PlanTree) → AreBlocksAfter earlier bs → made_by earlier ≤ 65536 → made_from (made_by earlier) bs ≤ 65536
made_within earlier [] ordered few = few
made_within earlier (b ∷ bs) ordered few =
    rw (made_from_one_more 0 earlier b) at (made_within (earlier ++ b ∷ []) bs ordered.1 (rw (made_from_one_more 0 earlier b) ordered.0.total))

-- the calls of a plan are few enough, and in order
pub plan_orderly : (blocks : PlanTree) → IsOrdered blocks → IsPlanned (calls_of_plan blocks)
plan_orderly blocks ordered =
    let all = blocks_run [] blocks [] 0 ordered.1 firsts_start in
    (omega (arith, length-calls_from [] 0 0 blocks, made_within [] blocks ordered.1 (omega arith)), runs_orderly 0 0 (calls_of_plan blocks) all.0 all.1 all.2)
