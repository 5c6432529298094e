-- How many submissions and calls there are.
use Rattle.std.proofs.Common.{◌≡◌, ◌⊎◌, ℕ, zero, suc, ◌+◌, ◌*◌, ◌≤◌, List, [], ◌∷◌, ◌++◌, length, Option, Some, None, refl, ap, inl, inr, arith, length-append, add-one}
use Rattle.std.proofs.lemmas.Bool.{cases_Bool}
use Rattle.plan_read.specs.declared.plans.Call.{Call}
use Rattle.plan_read.specs.declared.plans.Op.{Op}
use Rattle.plan_read.specs.Plans.{BlockTree, PlanTree, is_submission, name_of, names_of, tasks_after, tasks_after_calls, made_from}
use Rattle.plan_compile.specs.PlanCalls.{calls_at, block_tasks, block_iteration, block_iterations, calls_of_blocks}

-- a value that may be missing is missing or there
pub none_or_some : {A : Type 0} (o : Option A) → (o ≡ None) ⊎ ((x : A) × (o ≡ Some x))
none_or_some None = inl refl
none_or_some (Some x) = inr (x, refl)

-- ---- submissions

-- an operation counts the same from any number on
tasks_after-shift : (n k : ℕ) (op : Op) → tasks_after (n + k) op ≡ n + tasks_after k op
tasks_after-shift n k op = elim (cases_Bool (is_submission op)) [ inl t ↦ rw t (omega arith) | inr f ↦ rw f refl ]

-- calls count the same from any number on
pub tasks_after_calls-shift : (n k : ℕ) (cs : List Call) → tasks_after_calls (n + k) cs ≡ n + tasks_after_calls k cs
tasks_after_calls-shift n k [] = refl
tasks_after_calls-shift n k (c ∷ cs) = rw (tasks_after-shift n k c.op) (tasks_after_calls-shift n (tasks_after k c.op) cs)

-- counting from 0, and then adding
pub tasks_after_calls-from : (n : ℕ) (cs : List Call) → tasks_after_calls n cs ≡ n + tasks_after_calls 0 cs
tasks_after_calls-from n cs = let e : n + 0 ≡ n = omega arith in rw e at (tasks_after_calls-shift n 0 cs)

-- one more at most
pub tasks_after-le : (n : ℕ) (op : Op) → tasks_after n op ≤ n + 1
tasks_after-le n op = elim (cases_Bool (is_submission op)) [ inl t ↦ rw t (omega arith) | inr f ↦ rw f (omega arith) ]

-- no more submissions than calls
pub tasks_after_calls-le : (n : ℕ) (cs : List Call) → tasks_after_calls n cs ≤ n + length cs
tasks_after_calls-le n [] = omega arith
tasks_after_calls-le n (c ∷ cs) = omega (arith, tasks_after_calls-le (tasks_after n c.op) cs, tasks_after-le n c.op)

-- each submission has a name
pub length-names_of : (n : ℕ) (cs : List Call) → n + length (names_of cs) ≡ tasks_after_calls n cs
length-names_of n [] = omega arith
length-names_of n (c ∷ cs) =
    elim (none_or_some (name_of c.op)) [
      | inl e ↦ rw e (length-names_of n cs)
      | inr e ↦ rw e.1 (omega (arith, length-names_of (n + 1) cs))
    ]

-- ---- calls

-- an iteration makes no more calls than stand in the text
pub length-calls_at : (firsts : List ℕ) (base start task : ℕ) (cs : List Call) → length (calls_at firsts base start task cs) ≤ length cs
length-calls_at firsts base start task [] = omega arith
length-calls_at firsts base start task (c ∷ cs) = omega (arith, length-calls_at firsts base start (tasks_after task c.op) cs)

-- one more iteration
pub times-suc : (n k : ℕ) → suc n * k ≡ n * k + k
times-suc n k = grind arith

length-iterations : (firsts : List ℕ) (first : ℕ) (b : BlockTree) (n : ℕ) → length (block_iterations firsts first b n) ≤ n * length b.calls
length-iterations firsts first b zero = omega arith
length-iterations firsts first b (suc n) =
    omega (
      arith,
      times-suc n (length b.calls),
      length-append (block_iterations firsts first b n) (block_iteration firsts first b n),
      length-iterations firsts first b n,
      length-calls_at firsts (b.header.at + n * b.header.every) (first + n * block_tasks b) (first + n * block_tasks b) b.calls,
    )

-- a plan makes no more calls than its text says
pub length-calls_from : (firsts : List ℕ) (first made : ℕ) (bs : PlanTree) → made + length (calls_of_blocks firsts first bs) ≤ made_from made bs
length-calls_from firsts first made [] = omega arith
length-calls_from firsts first made (b ∷ bs) =
    let rest = calls_of_blocks (firsts ++ first ∷ []) (first + b.header.times * block_tasks b) bs in
    omega (
      arith,
      length-append (block_iterations firsts first b b.header.times) rest,
      length-iterations firsts first b b.header.times,
      length-calls_from (firsts ++ first ∷ []) (first + b.header.times * block_tasks b) (made + b.header.times * length b.calls) bs,
    )

-- the submissions of some iterations are no more than their calls
pub tasks_of-le : (b : BlockTree) → block_tasks b ≤ length b.calls
tasks_of-le b = omega (arith, tasks_after_calls-le 0 b.calls)

-- one more iteration
pub iterations-more : (firsts : List ℕ) (first : ℕ) (b : BlockTree) (r : ℕ) → block_iterations firsts first b (r + 1) ≡ block_iterations firsts first b r ++ block_iteration firsts first b r
iterations-more firsts first b r = ap (block_iterations firsts first b) (add-one r)
