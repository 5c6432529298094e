-- How many calls and tasks instructions make, and which of their calls is the last.
use Rattle.std.proofs.Common.{◌≡◌, ℕ, zero, suc, ◌+◌, ◌*◌, ◌≤◌, true, cond, eqb, List, [], ◌∷◌, ◌++◌, inl, inr, length, refl, sym, ap, ◌∙◌, arith, append_assoc, length-append}
use Rattle.std.proofs.lemmas.Bool.{eqb-true, cases_Bool}
use Rattle.queue_code.specs.declared.call.CodeCall.TheVariants as call
use Rattle.queue_code.specs.declared.instr.Instr.{Instr}
use Rattle.queue_code.specs.declared.instr.Instr.TheVariants.{Submit, Illegal, Loop, EndLoop, Halt}
use Rattle.queue_code.specs.Calls.{Planned, task_count}
use Rattle.queue_code.specs.Codes.{call_by, in_front, tasks_by, tasks_in, pass, iterations}
use Rattle.queue_code.specs.Checks.{offset_of, makes_call, first_call_moment, last_from}
use Rattle.queue_code.proofs.Passing.{length_call, in_front_append}

-- each of some instructions makes a call
abbrev pub AreCalls : List Instr → Type 0
AreCalls [] = Unit {0}
AreCalls (i ∷ is) = (makes_call i ≡ true) × AreCalls is

-- the tasks of an instruction and of some calls behind it
pub tasks_call : (base start count : ℕ) (i : Instr) (rest : List Planned) → task_count (in_front (call_by base start count i) rest) ≡ tasks_by i + task_count rest
tasks_call base start count (Submit offset timing delay) rest = omega arith
tasks_call base start count (Illegal offset) rest = omega arith
tasks_call base start count i rest = omega arith

-- the tasks of instructions that are executed once, and of some calls behind them
pub tasks_pass : (base start count : ℕ) (is : List Instr) (ys : List Planned) → task_count (pass base start count is ++ ys) ≡ tasks_in is + task_count ys
tasks_pass base start count [] ys = omega arith
tasks_pass base start count (i ∷ is) ys =
    omega (
      arith,
      ap task_count (in_front_append (call_by base start count i) (pass base start (count + tasks_by i) is) ys),
      tasks_call base start count i (pass base start (count + tasks_by i) is ++ ys),
      tasks_pass base start (count + tasks_by i) is ys,
    )

-- the tasks of iterations of a loop, and of some calls behind them
pub tasks_turns : (n q every count : ℕ) (body : List Instr) (ys : List Planned) → task_count (iterations n q every body count ++ ys) ≡ n * tasks_in body + task_count ys
tasks_turns zero q every count body ys = omega arith
tasks_turns (suc n) q every count body ys =
    omega (
      arith,
      ap task_count (append_assoc (pass (q * every) count count body) (iterations n (q + 1) every body (count + tasks_in body)) ys),
      tasks_pass (q * every) count count body (iterations n (q + 1) every body (count + tasks_in body) ++ ys),
      tasks_turns n (q + 1) every (count + tasks_in body) body ys,
    )

-- instructions of which each makes a call make as many
pub length_pass : (base start count : ℕ) (is : List Instr) → AreCalls is → length (pass base start count is) ≡ length is
length_pass base start count [] calls = refl
length_pass base start count (i ∷ is) calls =
    omega (arith, length_call i base start count (pass base start (count + tasks_by i) is) calls.0, length_pass base start (count + tasks_by i) is calls.1)

-- so do iterations
pub length_turns : (n q every count : ℕ) (body : List Instr) → AreCalls body → length (iterations n q every body count) ≡ n * length body
length_turns zero q every count body calls = omega arith
length_turns (suc n) q every count body calls =
    omega (arith, length-append (pass (q * every) count count body) (iterations n (q + 1) every body (count + tasks_in body)), length_pass (q * every) count count body calls, length_turns n (q + 1) every (count + tasks_in body) body calls)

-- the tasks of calls, and of others behind them
pub tasks_append : (xs ys : List Planned) → task_count (xs ++ ys) ≡ task_count xs + task_count ys
tasks_append [] ys = omega arith
tasks_append ((moment, call.Submit task timing delay) ∷ xs) ys = omega (arith, tasks_append xs ys)
tasks_append ((moment, call.Illegal task) ∷ xs) ys = omega (arith, tasks_append xs ys)
tasks_append ((moment, what) ∷ xs) ys = omega (arith, tasks_append xs ys)

-- instructions with one more at the end
pub tasks_more : (is : List Instr) (i : Instr) → tasks_in (is ++ i ∷ []) ≡ tasks_in is + tasks_by i
tasks_more [] i = omega arith
tasks_more (j ∷ is) i = omega (arith, tasks_more is i)

-- each of them makes a call
pub calls_more : (is : List Instr) (i : Instr) → AreCalls is → makes_call i ≡ true → AreCalls (is ++ i ∷ [])
calls_more [] i calls call = (call, tt)
calls_more (j ∷ is) i calls call = (calls.0, calls_more is i calls.1 call)

-- the calls of instructions, and of others behind them
pub pass_append : (base start count : ℕ) (xs ys : List Instr) → pass base start count (xs ++ ys) ≡ pass base start count xs ++ pass base start (count + tasks_in xs) ys
pass_append base start count [] ys = let e : count ≡ count + 0 = omega arith in ap (λ (n : ℕ). pass base start n ys) e
pass_append base start count (i ∷ xs) ys =
    let e : count + tasks_by i + tasks_in xs ≡ count + (tasks_by i + tasks_in xs) = omega arith in
    ap (in_front (call_by base start count i)) (pass_append base start (count + tasks_by i) xs ys)
    ∙ sym (in_front_append (call_by base start count i) (pass base start (count + tasks_by i) xs) (pass base start (count + tasks_by i + tasks_in xs) ys))
    ∙ ap (λ (n : ℕ). in_front (call_by base start count i) (pass base start (count + tasks_by i) xs) ++ pass base start n ys) e

-- the last moment of calls, and of others behind them
pub last_append : (m : ℕ) (xs ys : List Planned) → last_from m (xs ++ ys) ≡ last_from (last_from m xs) ys
last_append m [] ys = refl
last_append m (p ∷ xs) ys = last_append p.0 xs ys

-- a call is made at its offset
pub last_call : (m base start count : ℕ) (i : Instr) (rest : List Planned) → makes_call i ≡ true → last_from m (in_front (call_by base start count i) rest) ≡ last_from (base + offset_of i) rest
last_call m base start count (Loop times every) rest call = cc
last_call m base start count EndLoop rest call = cc
last_call m base start count Halt rest call = cc
last_call m base start count i rest call = refl

-- so is the first one
pub first_call : (base start count : ℕ) (i : Instr) (rest : List Planned) → makes_call i ≡ true → first_call_moment (in_front (call_by base start count i) rest) ≡ base + offset_of i
first_call base start count (Loop times every) rest call = cc
first_call base start count EndLoop rest call = cc
first_call base start count Halt rest call = cc
first_call base start count i rest call = refl

-- the last call of an iteration is made as much later as its base is higher
last_later : (base start count begin tasks m : ℕ) (is : List Instr) → AreCalls is → last_from (base + m) (pass base start count is) ≡ base + last_from m (pass 0 begin tasks is)
last_later base start count begin tasks m [] calls = refl
last_later base start count begin tasks m (i ∷ is) calls =
    let e : base + offset_of i ≡ base + (0 + offset_of i) = omega arith in
    last_call (base + m) base start count i (pass base start (count + tasks_by i) is) calls.0
    ∙ ap (λ (n : ℕ). last_from n (pass base start (count + tasks_by i) is)) e
    ∙ last_later base start (count + tasks_by i) begin (tasks + tasks_by i) (0 + offset_of i) is calls.1
    ∙ ap (λ (n : ℕ). base + n) (sym (last_call m 0 begin tasks i (pass 0 begin (tasks + tasks_by i) is) calls.0))

last_pass : (base start count begin tasks m k : ℕ) (i : Instr) (is : List Instr) → AreCalls (i ∷ is) → last_from m (pass base start count (i ∷ is)) ≡ base + last_from k (pass 0 begin tasks (i ∷ is))
last_pass base start count begin tasks m k i is calls =
    last_call m base start count i (pass base start (count + tasks_by i) is) calls.0
    ∙ sym (last_call (base + k) base start count i (pass base start (count + tasks_by i) is) calls.0)
    ∙ last_later base start count begin tasks k (i ∷ is) calls

-- the last call of a loop is that of its last iteration
pub last_turns : (n q every count begin tasks m k : ℕ) (i : Instr) (is : List Instr) → AreCalls (i ∷ is) → last_from m (iterations (suc n) q every (i ∷ is) count) ≡ (q + n) * every + last_from k (pass 0 begin tasks (i ∷ is))
last_turns zero q every count begin tasks m k i is calls =
    let e : q ≡ q + 0 = omega arith in
    last_append m (pass (q * every) count count (i ∷ is)) []
    ∙ last_pass (q * every) count count begin tasks m k i is calls
    ∙ ap (λ (n : ℕ). n * every + last_from k (pass 0 begin tasks (i ∷ is))) e
last_turns (suc n) q every count begin tasks m k i is calls =
    let e : q + 1 + n ≡ q + suc n = omega arith in
    last_append m (pass (q * every) count count (i ∷ is)) (iterations (suc n) (q + 1) every (i ∷ is) (count + tasks_in (i ∷ is)))
    ∙ last_turns n (q + 1) every (count + tasks_in (i ∷ is)) begin tasks (last_from m (pass (q * every) count count (i ∷ is))) k i is calls
    ∙ ap (λ (n : ℕ). n * every + last_from k (pass 0 begin tasks (i ∷ is))) e

-- a choice at zero
pub if_zero : (n a b : ℕ) → n ≡ 0 → cond (eqb n 0) a b ≡ a
if_zero n a b is = rw is refl

-- and above it
pub if_more : (n a b : ℕ) → 1 ≤ n → cond (eqb n 0) a b ≡ b
if_more zero a b low = absurd (omega (arith, low))
if_more (suc n) a b low =
    elim (cases_Bool (eqb (suc n) 0)) [
      | inl is ↦ absurd (omega (arith, eqb-true (suc n) 0 is))
      | inr isnt ↦ rw isnt refl
    ]
