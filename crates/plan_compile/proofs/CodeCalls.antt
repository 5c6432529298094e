-- A plan's code makes the plan's calls.
use Rattle.std.proofs.Common.{◌≡◌, ℕ, zero, suc, ◌+◌, ◌*◌, ◌≤◌, Bool, true, false, cond, ◌&&◌, List, [], ◌∷◌, ◌++◌, Option, Some, None, inl, inr, refl, sym, ap, ◌∙◌, arith, append_assoc, append-nil}
use Rattle.std.specs.Prelude.{slice_get, unwrap_or, is_none, nat_lt}
use Rattle.std.proofs.lemmas.Bool.{cases_Bool, ltb-false}
use Rattle.queue_code.specs.declared.call.CodeCall.TheVariants as made
use Rattle.queue_code.specs.declared.instr.Instr.{Instr}
use Rattle.queue_code.specs.declared.instr.Instr.TheVariants as instr
use Rattle.queue_code.specs.Calls.{Planned}
use Rattle.queue_code.specs.Codes.{call_by, in_front, tasks_by, tasks_in, pass, body_of}
use Rattle.queue_code.specs.Codes.{iterations as turns, calls_from as code_calls_from, calls_of as code_calls}
use Rattle.plan_read.specs.declared.plans.Call.{Call}
use Rattle.plan_read.specs.declared.plans.Header.{Header}
use Rattle.plan_read.specs.declared.plans.Op.{Op}
use Rattle.plan_read.specs.declared.plans.Op.TheVariants as ops
use Rattle.plan_read.specs.Plans.{BlockTree, PlanTree, tasks_after, tasks_after_calls, AreBlocksAfter, IsOrdered}
use Rattle.plan_compile.specs.PlanCalls.{code_call, calls_at, block_tasks, block_iteration, block_iterations, calls_of_blocks, calls_of_plan}
use Rattle.plan_compile.specs.PlanCode.{instr_of, instrs_at, block_instrs, instrs_from, instrs_of}
use Rattle.plan_compile.proofs.Counting.{tasks_after_calls-from, iterations-more}
use Rattle.plan_compile.proofs.Ordering.{no_iterations}

-- ---- one call

moment_is : (base at o : ℕ) → base + (at + o) ≡ at + base + o
moment_is base at o = omega arith

-- a cancel, whose target's block has this first number, if it is an earlier one
cancels : (found : Option ℕ) (repeated : Bool) (base at o s start first count sub : ℕ) → (repeated ≡ true → s ≡ start) → (repeated ≡ false → first ≡ start)
    → call_by base s count (cond (repeated && is_none found) (instr.CancelHere (at + o) sub) (instr.CancelFixed (at + o) (unwrap_or found first + sub)))
    ≡ Some (at + base + o, made.Cancel (unwrap_or found start + sub))
cancels None true base at o s start first count sub here there =
    ap (λ (m : ℕ). Some (m, made.Cancel (s + sub))) (moment_is base at o) ∙ ap (λ (n : ℕ). Some (at + base + o, made.Cancel (n + sub))) (here refl)
cancels (Some f) true base at o s start first count sub here there = ap (λ (m : ℕ). Some (m, made.Cancel (f + sub))) (moment_is base at o)
cancels None false base at o s start first count sub here there =
    ap (λ (m : ℕ). Some (m, made.Cancel (first + sub))) (moment_is base at o) ∙ ap (λ (n : ℕ). Some (at + base + o, made.Cancel (n + sub))) (there refl)
cancels (Some f) false base at o s start first count sub here there = ap (λ (m : ℕ). Some (m, made.Cancel (f + sub))) (moment_is base at o)

-- an operation's instruction makes the operation's call
makes_call : (firsts : List ℕ) (first : ℕ) (repeated : Bool) (base at o s start count : ℕ) (op : Op) → (repeated ≡ true → s ≡ start) → (repeated ≡ false → first ≡ start)
    → call_by base s count (instr_of firsts first repeated (at + o) op) ≡ Some (at + base + o, code_call firsts start count op)
makes_call firsts first repeated base at o s start count (ops.Cancel target) here there =
    cancels (slice_get firsts target.block) repeated base at o s start first count target.sub here there
makes_call firsts first repeated base at o s start count (ops.Rate name delay (Some period)) here there = ap (λ (m : ℕ). Some (m, code_call firsts start count (ops.Rate name delay (Some period)))) (moment_is base at o)
makes_call firsts first repeated base at o s start count (ops.Rate name delay None) here there = ap (λ (m : ℕ). Some (m, made.Illegal count)) (moment_is base at o)
makes_call firsts first repeated base at o s start count (ops.Fixed name delay (Some gap)) here there = ap (λ (m : ℕ). Some (m, code_call firsts start count (ops.Fixed name delay (Some gap)))) (moment_is base at o)
makes_call firsts first repeated base at o s start count (ops.Fixed name delay None) here there = ap (λ (m : ℕ). Some (m, made.Illegal count)) (moment_is base at o)
makes_call firsts first repeated base at o s start count op here there = ap (λ (m : ℕ). Some (m, code_call firsts start count op)) (moment_is base at o)

-- what all instructions of operations have in common
record IsCallInstr (i : Instr) (op : Op) : Type 0 where
  tasks : (n : ℕ) → n + tasks_by i ≡ tasks_after n op
  body : (is : List Instr) → body_of (i ∷ is) ≡ i ∷ body_of is
  behind : (n : ℕ) (is : List Instr) → code_calls_from true n (i ∷ is) ≡ code_calls_from true n is
  plain : (n : ℕ) (is : List Instr) → code_calls_from false n (i ∷ is) ≡ in_front (call_by 0 0 n i) (code_calls_from false (n + tasks_by i) is)

cancel_is_call : (here : Bool) (offset nth task block sub : ℕ) → IsCallInstr (cond here (instr.CancelHere offset nth) (instr.CancelFixed offset task)) (ops.Cancel (record { block = block; sub = sub }))
cancel_is_call true offset nth task block sub = record { tasks = λ n. omega arith; body = λ is. refl; behind = λ n is. refl; plain = λ n is. refl }
cancel_is_call false offset nth task block sub = record { tasks = λ n. omega arith; body = λ is. refl; behind = λ n is. refl; plain = λ n is. refl }

is_call_instr : (firsts : List ℕ) (first : ℕ) (repeated : Bool) (offset : ℕ) (op : Op) → IsCallInstr (instr_of firsts first repeated offset op) op
is_call_instr firsts first repeated offset (ops.Cancel target) =
    cancel_is_call (repeated && is_none (slice_get firsts target.block)) offset target.sub (unwrap_or (slice_get firsts target.block) first + target.sub) target.block target.sub
is_call_instr firsts first repeated offset (ops.Rate name delay (Some period)) = record { tasks = λ n. refl; body = λ is. refl; behind = λ n is. refl; plain = λ n is. refl }
is_call_instr firsts first repeated offset (ops.Rate name delay None) = record { tasks = λ n. refl; body = λ is. refl; behind = λ n is. refl; plain = λ n is. refl }
is_call_instr firsts first repeated offset (ops.Fixed name delay (Some gap)) = record { tasks = λ n. refl; body = λ is. refl; behind = λ n is. refl; plain = λ n is. refl }
is_call_instr firsts first repeated offset (ops.Fixed name delay None) = record { tasks = λ n. refl; body = λ is. refl; behind = λ n is. refl; plain = λ n is. refl }
is_call_instr firsts first repeated offset op = record { tasks = λ n. omega arith; body = λ is. refl; behind = λ n is. refl; plain = λ n is. refl }

-- ---- the loop of a block

body_is : (firsts : List ℕ) (first at : ℕ) (cs : List Call) (rest : List Instr) → body_of (instrs_at firsts first true at cs ++ instr.EndLoop ∷ rest) ≡ instrs_at firsts first true at cs
body_is firsts first at [] rest = refl
body_is firsts first at (c ∷ cs) rest =
    (is_call_instr firsts first true (at + c.at) c.op).body _ ∙ ap (λ (is : List Instr). instr_of firsts first true (at + c.at) c.op ∷ is) (body_is firsts first at cs rest)

behind_is : (firsts : List ℕ) (first at n : ℕ) (cs : List Call) (rest : List Instr) → code_calls_from true n (instrs_at firsts first true at cs ++ instr.EndLoop ∷ rest) ≡ code_calls_from false n rest
behind_is firsts first at n [] rest = refl
behind_is firsts first at n (c ∷ cs) rest = (is_call_instr firsts first true (at + c.at) c.op).behind n _ ∙ behind_is firsts first at n cs rest

-- instructions make as many tasks as their calls
tasks_are : (firsts : List ℕ) (first : ℕ) (repeated : Bool) (at n : ℕ) (cs : List Call) → n + tasks_in (instrs_at firsts first repeated at cs) ≡ tasks_after_calls n cs
tasks_are firsts first repeated at n [] = omega arith
tasks_are firsts first repeated at n (c ∷ cs) =
    let i = instr_of firsts first repeated (at + c.at) c.op in
    let rest = tasks_in (instrs_at firsts first repeated at cs) in
    let e : n + (tasks_by i + rest) ≡ n + tasks_by i + rest = omega arith in
    e ∙ ap (λ (m : ℕ). m + rest) ((is_call_instr firsts first repeated (at + c.at) c.op).tasks n) ∙ tasks_are firsts first repeated at (tasks_after n c.op) cs

-- one pass makes the calls of one iteration
pass_is : (firsts : List ℕ) (first : ℕ) (repeated : Bool) (base at start count : ℕ) (cs : List Call) → (repeated ≡ false → first ≡ start)
    → pass base start count (instrs_at firsts first repeated at cs) ≡ calls_at firsts (at + base) start count cs
pass_is firsts first repeated base at start count [] there = refl
pass_is firsts first repeated base at start count (c ∷ cs) there =
    let i = instr_of firsts first repeated (at + c.at) c.op in
    let is = instrs_at firsts first repeated at cs in
    ap (λ (o : Option Planned). in_front o (pass base start (count + tasks_by i) is)) (makes_call firsts first repeated base at c.at start start count c.op (λ e. refl) there)
    ∙ ap (λ (n : ℕ). (at + base + c.at, code_call firsts start count c.op) ∷ pass base start n is) ((is_call_instr firsts first repeated (at + c.at) c.op).tasks count)
    ∙ ap (λ (ps : List Planned). (at + base + c.at, code_call firsts start count c.op) ∷ ps) (pass_is firsts first repeated base at start (tasks_after count c.op) cs there)

-- the iterations of a loop make those of the block
turns_are : (firsts : List ℕ) (first : ℕ) (b : BlockTree) (n r : ℕ)
    → block_iterations firsts first b r ++ turns n r b.header.every (instrs_at firsts first true b.header.at b.calls) (first + r * block_tasks b) ≡ block_iterations firsts first b (r + n)
turns_are firsts first b zero r =
    let e : r + 0 ≡ r = omega arith in
    append-nil (block_iterations firsts first b r) ∙ ap (block_iterations firsts first b) (sym e)
turns_are firsts first b (suc n) r =
    let body = instrs_at firsts first true b.header.at b.calls in
    let start = first + r * block_tasks b in
    let next : start + tasks_in body ≡ first + (r + 1) * block_tasks b =
    tasks_are firsts first true b.header.at start b.calls ∙ tasks_after_calls-from start b.calls ∙ (grind arith) in
    let later : r + 1 + n ≡ r + suc n = omega arith in
    ap (λ (ps : List Planned). block_iterations firsts first b r ++ (ps ++ turns n (r + 1) b.header.every body (start + tasks_in body))) (pass_is firsts first true (r * b.header.every) b.header.at start start b.calls (λ e. cc))
    ∙ sym (append_assoc (block_iterations firsts first b r) (block_iteration firsts first b r) (turns n (r + 1) b.header.every body (start + tasks_in body)))
    ∙ ap (λ (ps : List Planned). ps ++ turns n (r + 1) b.header.every body (start + tasks_in body)) (sym (iterations-more firsts first b r))
    ∙ ap (λ (m : ℕ). block_iterations firsts first b (r + 1) ++ turns n (r + 1) b.header.every body m) next
    ∙ turns_are firsts first b n (r + 1)
    ∙ ap (block_iterations firsts first b) later

-- a block that is a loop
looped : (firsts : List ℕ) (first : ℕ) (b : BlockTree) (rest : List Instr)
    → code_calls_from false first (instr.Loop b.header.times b.header.every ∷ (instrs_at firsts first true b.header.at b.calls ++ instr.EndLoop ∷ rest))
    ≡ block_iterations firsts first b b.header.times ++ code_calls_from false (first + b.header.times * block_tasks b) rest
looped firsts first b rest =
    let body = instrs_at firsts first true b.header.at b.calls in
    let loop = body ++ instr.EndLoop ∷ rest in
    let zeros : first ≡ first + 0 * block_tasks b = omega arith in
    let whole : 0 + b.header.times ≡ b.header.times = omega arith in
    let tasks : tasks_in body ≡ block_tasks b = omega (arith, tasks_are firsts first true b.header.at 0 b.calls) in
    ap (λ (is : List Instr). turns b.header.times 0 b.header.every is first ++ code_calls_from true (first + b.header.times * tasks_in is) loop) (body_is firsts first b.header.at b.calls rest)
    ∙ ap (λ (n : ℕ). turns b.header.times 0 b.header.every body n ++ code_calls_from true (first + b.header.times * tasks_in body) loop) zeros
    ∙ ap (λ (ps : List Planned). ps ++ code_calls_from true (first + b.header.times * tasks_in body) loop) (turns_are firsts first b b.header.times 0 ∙ ap (block_iterations firsts first b) whole)
    ∙ ap (λ (n : ℕ). block_iterations firsts first b b.header.times ++ code_calls_from true (first + b.header.times * n) loop) tasks
    ∙ ap (λ (ps : List Planned). block_iterations firsts first b b.header.times ++ ps) (behind_is firsts first b.header.at (first + b.header.times * block_tasks b) b.calls rest)

-- ---- a block that is made once

straight : (firsts : List ℕ) (first at count : ℕ) (cs : List Call) (rest : List Instr)
    → code_calls_from false count (instrs_at firsts first false at cs ++ rest) ≡ calls_at firsts at first count cs ++ code_calls_from false (tasks_after_calls count cs) rest
straight firsts first at count [] rest = refl
straight firsts first at count (c ∷ cs) rest =
    let i = instr_of firsts first false (at + c.at) c.op in
    let k = is_call_instr firsts first false (at + c.at) c.op in
    let is = instrs_at firsts first false at cs ++ rest in
    let e : at + 0 + c.at ≡ at + c.at = omega arith in
    k.plain count is
    ∙ ap (λ (o : Option Planned). in_front o (code_calls_from false (count + tasks_by i) is)) (makes_call firsts first false 0 at c.at 0 first count c.op (λ h. cc) (λ h. refl))
    ∙ ap (λ (n : ℕ). (at + 0 + c.at, code_call firsts first count c.op) ∷ code_calls_from false n is) (k.tasks count)
    ∙ ap (λ (m : ℕ). (m, code_call firsts first count c.op) ∷ code_calls_from false (tasks_after count c.op) is) e
    ∙ ap (λ (ps : List Planned). (at + c.at, code_call firsts first count c.op) ∷ ps) (straight firsts first at (tasks_after count c.op) cs rest)

once : (firsts : List ℕ) (first : ℕ) (b : BlockTree) (rest : List Instr)
    → code_calls_from false first (instrs_at firsts first false b.header.at b.calls ++ rest) ≡ block_iterations firsts first b 1 ++ code_calls_from false (first + 1 * block_tasks b) rest
once firsts first b rest =
    let at : b.header.at ≡ b.header.at + 0 * b.header.every = omega arith in
    let zeros : first ≡ first + 0 * block_tasks b = omega arith in
    let tasks : tasks_after_calls first b.calls ≡ first + 1 * block_tasks b = omega (arith, tasks_after_calls-from first b.calls) in
    straight firsts first b.header.at first b.calls rest
    ∙ ap (λ (n : ℕ). calls_at firsts b.header.at first first b.calls ++ code_calls_from false n rest) tasks
    ∙ ap (λ (m : ℕ). calls_at firsts m first first b.calls ++ code_calls_from false (first + 1 * block_tasks b) rest) at
    ∙ ap (λ (n : ℕ). calls_at firsts (b.header.at + 0 * b.header.every) n n b.calls ++ code_calls_from false (first + 1 * block_tasks b) rest) zeros

-- ---- the whole plan

-- the instructions of a block make its calls
block_is : (firsts : List ℕ) (first : ℕ) (h : Header) (cs : List Call) (rest : List Instr) → 1 ≤ h.times
    → code_calls_from false first (block_instrs firsts first h cs ++ rest)
    ≡ block_iterations firsts first (record { header = h; calls = cs }) h.times ++ code_calls_from false (first + h.times * tasks_after_calls 0 cs) rest
block_is firsts first h [] rest least =
    let e : first + h.times * 0 ≡ first = omega arith in
    rw (no_iterations firsts first h h.times, e) refl
block_is firsts first h (c ∷ cs) rest least =
    let b : BlockTree = record { header = h; calls = c ∷ cs } in
    let loop = instr.Loop h.times h.every ∷ (instrs_at firsts first true h.at (c ∷ cs) ++ instr.EndLoop ∷ []) in
    let plain = instrs_at firsts first false h.at (c ∷ cs) in
    elim (cases_Bool (nat_lt 1 h.times)) [
      | inl more ↦
          ap (λ (test : Bool). code_calls_from false first (cond test loop plain ++ rest)) more
          ∙ ap (λ (is : List Instr). code_calls_from false first (instr.Loop h.times h.every ∷ is)) (append_assoc (instrs_at firsts first true h.at (c ∷ cs)) (instr.EndLoop ∷ []) rest)
          ∙ looped firsts first b rest
      | inr single ↦ (
          let one : 1 ≡ h.times = omega (arith, least, ltb-false 1 h.times single) in
          ap (λ (test : Bool). code_calls_from false first (cond test loop plain ++ rest)) single
          ∙ once firsts first b rest
          ∙ ap (λ (n : ℕ). block_iterations firsts first b n ++ code_calls_from false (first + n * block_tasks b) rest) one)
    ]

blocks_are : (earlier bs : PlanTree) (firsts : List ℕ) (first : ℕ) → AreBlocksAfter earlier bs → code_calls_from false first (instrs_from firsts first bs) ≡ calls_of_blocks firsts first bs
blocks_are earlier [] firsts first ordered = refl
blocks_are earlier (b ∷ bs) firsts first ordered =
    block_is firsts first b.header b.calls (instrs_from (firsts ++ first ∷ []) (first + b.header.times * block_tasks b) bs) ordered.0.least
    ∙ ap (λ (ps : List Planned). block_iterations firsts first b b.header.times ++ ps) (blocks_are (earlier ++ b ∷ []) bs (firsts ++ first ∷ []) (first + b.header.times * block_tasks b) ordered.1)

-- the code of a plan makes the plan's calls
pub code_makes_calls : (blocks : PlanTree) → IsOrdered blocks → code_calls (instrs_of blocks) ≡ calls_of_plan blocks
code_makes_calls blocks ordered = blocks_are [] blocks [] 0 ordered.1
