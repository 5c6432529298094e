-- Where the calls of a block stand among those of its plan.
use Rattle.std.proofs.Common.{◌≡◌, ◌∙◌, ◌⊎◌, inl, inr, ℕ, zero, suc, ◌+◌, ◌*◌, ◌<◌, ◌≤◌, List, [], ◌∷◌, ◌++◌, length, Some, refl, sym, ap, subst, arith, append_assoc, append-nil, length-append}
use Rattle.std.specs.Prelude.{slice_get}
use Rattle.std.proofs.lemmas.Bool.{cases_lt}
use Rattle.queue_code.specs.Calls.{Planned}
use Rattle.plan_read.specs.declared.plans.Call.{Call}
use Rattle.plan_read.specs.Plans.{BlockTree, PlanTree, tasks_after, tasks_after_calls, made_by, made_from}
use Rattle.plan_compile.specs.PlanCalls.{code_call, calls_at, block_tasks, block_iteration, block_iterations, calls_of_blocks, calls_of_plan}
use Rattle.plan_compile.proofs.Counting.{times-suc}

-- the element between two lists
pub get_seam : {X : Type 0} (xs : List X) (x : X) (ys : List X) → slice_get (xs ++ x ∷ ys) (length xs) ≡ Some x
get_seam [] x ys = refl
get_seam (y ∷ xs) x ys = get_seam xs x ys

-- ---- the calls of an iteration

pub length_at : (firsts : List ℕ) (base start task : ℕ) (cs : List Call) → length (calls_at firsts base start task cs) ≡ length cs
length_at firsts base start task [] = refl
length_at firsts base start task (c ∷ cs) = ap suc (length_at firsts base start (tasks_after task c.op) cs)

parts_at : (firsts : List ℕ) (base start task : ℕ) (before : List Call) (c : Call) (behind : List Call)
    → calls_at firsts base start task (before ++ c ∷ behind)
    ≡ calls_at firsts base start task before ++ (base + c.at, code_call firsts start (tasks_after_calls task before) c.op) ∷ calls_at firsts base start (tasks_after (tasks_after_calls task before) c.op) behind
parts_at firsts base start task [] c behind = refl
parts_at firsts base start task (d ∷ before) c behind = ap (λ (ps : List Planned). (base + d.at, code_call firsts start task d.op) ∷ ps) (parts_at firsts base start (tasks_after task d.op) before c behind)

-- ---- the iterations of a block

pub length_iterations : (firsts : List ℕ) (first : ℕ) (b : BlockTree) (n : ℕ) → length (block_iterations firsts first b n) ≡ n * length b.calls
length_iterations firsts first b zero = omega arith
length_iterations firsts first b (suc n) =
    omega (
      arith,
      times-suc n (length b.calls),
      length-append (block_iterations firsts first b n) (block_iteration firsts first b n),
      length_iterations firsts first b n,
      length_at firsts (b.header.at + n * b.header.every) (first + n * block_tasks b) (first + n * block_tasks b) b.calls,
    )

-- what stands before an iteration of a block, and behind it
iteration_in : (firsts : List ℕ) (first : ℕ) (b : BlockTree) (n r : ℕ) → r < n
    → (rest : List Planned) × (block_iterations firsts first b n ≡ block_iterations firsts first b r ++ (block_iteration firsts first b r ++ rest))
iteration_in firsts first b zero r within = absurd (omega (arith, within))
iteration_in firsts first b (suc n) r within = elim (cases_lt r n) [
  | inl less ↦
      let i = iteration_in firsts first b n r less in
      let front = block_iterations firsts first b r in
      let one = block_iteration firsts first b r in
      let last = block_iteration firsts first b n in
      (i.0 ++ last, ap (λ (ps : List Planned). ps ++ last) i.1 ∙ (append_assoc front (one ++ i.0) last ∙ ap (λ (ps : List Planned). front ++ ps) (append_assoc one i.0 last)))
  | inr same ↦
      let is : n ≡ r = omega (arith, same, within) in (
        [],
        ap (λ (k : ℕ). block_iterations firsts first b k ++ block_iteration firsts first b k) is
            ∙ ap (λ (ps : List Planned). block_iterations firsts first b r ++ ps) (sym (append-nil (block_iteration firsts first b r))),
      )
]

-- ---- the blocks of a plan

-- how many submissions there are behind some blocks, where `first` stand before them
abbrev pub after_blocks : ℕ → PlanTree → ℕ
after_blocks first [] = first
after_blocks first (b ∷ bs) = after_blocks (first + b.header.times * block_tasks b) bs

-- the first number of each of some blocks
abbrev pub firsts_of : ℕ → PlanTree → List ℕ
firsts_of first [] = []
firsts_of first (b ∷ bs) = first ∷ firsts_of (first + b.header.times * block_tasks b) bs

pub length_calls : (firsts : List ℕ) (first made : ℕ) (bs : PlanTree) → made + length (calls_of_blocks firsts first bs) ≡ made_from made bs
length_calls firsts first made [] = omega arith
length_calls firsts first made (b ∷ bs) =
    let rest = calls_of_blocks (firsts ++ first ∷ []) (first + b.header.times * block_tasks b) bs in
    omega (
      arith,
      length-append (block_iterations firsts first b b.header.times) rest,
      length_iterations firsts first b b.header.times,
      length_calls (firsts ++ first ∷ []) (first + b.header.times * block_tasks b) (made + b.header.times * length b.calls) bs,
    )

-- what stands before a block, and behind it
block_in : (firsts : List ℕ) (first : ℕ) (earlier : PlanTree) (b : BlockTree) (later : PlanTree) (mine : List ℕ) → mine ≡ firsts ++ firsts_of first earlier
    → (rest : List Planned) × (calls_of_blocks firsts first (earlier ++ b ∷ later) ≡ calls_of_blocks firsts first earlier ++ (block_iterations mine (after_blocks first earlier) b b.header.times ++ rest))
block_in firsts first [] b later mine is =
    (_, ap (λ (fs : List ℕ). block_iterations fs first b b.header.times ++ calls_of_blocks (firsts ++ first ∷ []) (first + b.header.times * block_tasks b) later) (sym (is ∙ append-nil firsts)))
block_in firsts first (d ∷ earlier) b later mine is =
    let more = first + d.header.times * block_tasks d in
    let i = block_in (firsts ++ first ∷ []) more earlier b later mine (is ∙ sym (append_assoc firsts (first ∷ []) (firsts_of more earlier))) in
    let front = block_iterations firsts first d d.header.times in
    let mid = calls_of_blocks (firsts ++ first ∷ []) more earlier in
    let one = block_iterations mine (after_blocks more earlier) b b.header.times in
    (i.0, ap (λ (ps : List Planned). front ++ ps) i.1 ∙ sym (append_assoc front mid (one ++ i.0)))

-- ---- the call at a position

regroup : (old done put : List Planned) (this : Planned) (left rest more : List Planned) → old ++ ((done ++ ((put ++ this ∷ left) ++ rest)) ++ more) ≡ (old ++ (done ++ put)) ++ this ∷ (left ++ (rest ++ more))
regroup old done put this left rest more = simp append_assoc

-- the call of a block in one of its iterations
pub call_there : (earlier : PlanTree) (b : BlockTree) (later : PlanTree) (before : List Call) (c : Call) (behind : List Call) (r : ℕ) → b.calls ≡ before ++ c ∷ behind → r < b.header.times
    → (moment : ℕ) × (slice_get (calls_of_plan (earlier ++ b ∷ later)) (made_by earlier + r * length b.calls + length before)
    ≡ Some (moment, code_call (firsts_of 0 earlier) (after_blocks 0 earlier + r * block_tasks b) (tasks_after_calls (after_blocks 0 earlier + r * block_tasks b) before) c.op))
call_there earlier b later before c behind r in_block within =
    let firsts = firsts_of 0 earlier in
    let first = after_blocks 0 earlier in
    let start = first + r * block_tasks b in
    let base = b.header.at + r * b.header.every in
    let blocks = block_in [] 0 earlier b later firsts refl in
    let iterations = iteration_in firsts first b b.header.times r within in
    let old = calls_of_blocks [] 0 earlier in
    let done = block_iterations firsts first b r in
    let put = calls_at firsts base start start before in
    let this : Planned = (base + c.at, code_call firsts start (tasks_after_calls start before) c.op) in
    let left = calls_at firsts base start (tasks_after (tasks_after_calls start before) c.op) behind in
    let front = old ++ (done ++ put) in
    let rest = left ++ (iterations.0 ++ blocks.0) in
    let parts : calls_of_plan (earlier ++ b ∷ later) ≡ front ++ this ∷ rest =
    blocks.1 ∙ (ap (λ (ps : List Planned). old ++ (ps ++ blocks.0))
    (iterations.1 ∙ ap (λ (ps : List Planned). done ++ (ps ++ iterations.0)) (ap (calls_at firsts base start start) in_block ∙ parts_at firsts base start start before c behind))
    ∙ regroup old done put this left iterations.0 blocks.0)
    in
    let count : length front ≡ made_by earlier + r * length b.calls + length before =
    omega (
      arith,
      length-append old (done ++ put),
      length-append done put,
      length_calls [] 0 0 earlier,
      length_iterations firsts first b r,
      length_at firsts base start start before,
    )
    in
    (base + c.at, ap (slice_get (calls_of_plan (earlier ++ b ∷ later))) (sym count) ∙ (ap (λ (ps : List Planned). slice_get ps (length front)) parts ∙ get_seam front this rest))
