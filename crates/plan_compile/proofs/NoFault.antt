-- A plan's code has no fault.
use Rattle.std.proofs.Common.{◌≡◌, ℕ, zero, suc, ◌+◌, ◌*◌, ◌-◌, ◌<◌, ◌≤◌, ◌^◌, Bool, true, false, cond, eqb, ◌&&◌, List, [], ◌∷◌, ◌++◌, Option, Some, None, inl, inr, length, refl, ap, subst, ◌∙◌, arith, append_assoc}
use Rattle.std.specs.Prelude.{slice_get, unwrap_or, is_none, nat_lt}
use Rattle.std.proofs.lemmas.Bool.{cases_Bool, ltb-false, ltb-true, le-ltb, or_from}
use Rattle.queue_code.specs.declared.fault.CodeFault.{CodeFault}
use Rattle.queue_code.specs.declared.instr.Instr.{Instr}
use Rattle.queue_code.specs.declared.instr.Instr.TheVariants as instr
use Rattle.queue_code.specs.Checks.{first_failed, or_else, code_fault}
use Rattle.queue_code.specs.own.Walks.{last_shift, loop_after, walk_calls_after, walk_after, walk_lacks_task, walk_checks, first_fault}
use Rattle.queue_code.proofs.Accepting.{Met, none_fails, met_out, met_in, loop_begins, loop_ends, leb_not}
use Rattle.queue_code.proofs.Passing.{Passes}
use Rattle.queue_code.proofs.Faults.{fault_is}
use Rattle.plan_read.specs.declared.plans.Call.{Call}
use Rattle.plan_read.specs.declared.plans.Header.{Header}
use Rattle.plan_read.specs.declared.plans.Op.{Op}
use Rattle.plan_read.specs.declared.plans.Op.TheVariants as ops
use Rattle.plan_read.specs.Plans.{PlanTree, tasks_after, tasks_after_calls, last_offset, last_offset_from, end_of, end_of_block, made_by, IsWithinLimits, AreCallsAfter, IsBlockAfter, AreBlocksAfter, IsOrdered}
use Rattle.plan_read.proofs.Accepted.{end_from_one_more, made_from_one_more}
use Rattle.plan_compile.specs.PlanCalls.{block_tasks}
use Rattle.plan_compile.specs.PlanCode.{instr_of, instrs_at, block_instrs, instrs_from, instrs_of}
use Rattle.plan_compile.specs.own.PlanCode.{IsBelow}
use Rattle.plan_compile.proofs.Counting.{tasks_after_calls-from}
use Rattle.plan_compile.proofs.Ordering.{AreFirsts, firsts_start, firsts_next, op_below, last_offset-one_more, count_next, offset_within}

-- ---- one instruction

-- what a call's checks ask for, beside its delay and its target
record Fits (p : Met) (offset : ℕ) : Type 0 where
  low : p.last ≤ offset
  high : last_shift p.open_loop + offset ≤ 2 ^ 62
  few : walk_calls_after p.open_loop p.calls ≤ 65536

cancel_passes : (p : Met) (found : Option ℕ) (repeated : Bool) (first offset sub : ℕ) (rest : List Instr) → unwrap_or found first + sub < p.tasks
    → (repeated ≡ true → (nth : ℕ) → first + nth < p.tasks → walk_lacks_task p p.open_loop nth ≡ false) → Fits p offset
    → Passes p (cond (repeated && is_none found) (instr.CancelHere offset sub) (instr.CancelFixed offset (unwrap_or found first + sub))) rest
cancel_passes p None true first offset sub rest below here fits = record { early = refl; nested = refl; unclosed = refl; empty = refl; task = here refl sub below; large = le-ltb _ _ fits.high; order = le-ltb _ _ fits.low; many = le-ltb _ _ fits.few }
cancel_passes p (Some f) true first offset sub rest below here fits = record { early = refl; nested = refl; unclosed = refl; empty = refl; task = leb_not _ _ below; large = le-ltb _ _ fits.high; order = le-ltb _ _ fits.low; many = le-ltb _ _ fits.few }
cancel_passes p found false first offset sub rest below here fits = record { early = refl; nested = refl; unclosed = refl; empty = refl; task = leb_not _ _ below; large = le-ltb _ _ fits.high; order = le-ltb _ _ fits.low; many = le-ltb _ _ fits.few }

-- an operation's instruction passes all checks
instr_passes : (p : Met) (firsts : List ℕ) (first : ℕ) (repeated : Bool) (offset : ℕ) (op : Op) (rest : List Instr) → IsWithinLimits op → IsBelow firsts first p.tasks op
    → (repeated ≡ true → (nth : ℕ) → first + nth < p.tasks → walk_lacks_task p p.open_loop nth ≡ false) → Fits p offset → Passes p (instr_of firsts first repeated offset op) rest
instr_passes p firsts first repeated offset (ops.Cancel target) rest limits below here fits = cancel_passes p (slice_get firsts target.block) repeated first offset target.sub rest below here fits
instr_passes p firsts first repeated offset (ops.Schedule name delay) rest limits below here fits = record { early = refl; nested = refl; unclosed = refl; empty = refl; task = refl; large = or_from _ _ (le-ltb _ _ limits) (le-ltb _ _ fits.high); order = le-ltb _ _ fits.low; many = le-ltb _ _ fits.few }
instr_passes p firsts first repeated offset (ops.Execute name) rest limits below here fits = record { early = refl; nested = refl; unclosed = refl; empty = refl; task = refl; large = or_from _ _ refl (le-ltb _ _ fits.high); order = le-ltb _ _ fits.low; many = le-ltb _ _ fits.few }
instr_passes p firsts first repeated offset (ops.Rate name delay (Some period)) rest limits below here fits = record { early = refl; nested = refl; unclosed = refl; empty = refl; task = refl; large = or_from _ _ (le-ltb _ _ limits.0) (le-ltb _ _ fits.high); order = le-ltb _ _ fits.low; many = le-ltb _ _ fits.few }
instr_passes p firsts first repeated offset (ops.Rate name delay None) rest limits below here fits = record { early = refl; nested = refl; unclosed = refl; empty = refl; task = refl; large = le-ltb _ _ fits.high; order = le-ltb _ _ fits.low; many = le-ltb _ _ fits.few }
instr_passes p firsts first repeated offset (ops.Fixed name delay (Some gap)) rest limits below here fits = record { early = refl; nested = refl; unclosed = refl; empty = refl; task = refl; large = or_from _ _ (le-ltb _ _ limits.0) (le-ltb _ _ fits.high); order = le-ltb _ _ fits.low; many = le-ltb _ _ fits.few }
instr_passes p firsts first repeated offset (ops.Fixed name delay None) rest limits below here fits = record { early = refl; nested = refl; unclosed = refl; empty = refl; task = refl; large = le-ltb _ _ fits.high; order = le-ltb _ _ fits.low; many = le-ltb _ _ fits.few }
instr_passes p firsts first repeated offset op rest limits below here fits = record { early = refl; nested = refl; unclosed = refl; empty = refl; task = refl; large = le-ltb _ _ fits.high; order = le-ltb _ _ fits.low; many = le-ltb _ _ fits.few }

-- what is met after a call, where there are this many tasks then
abbrev met : Met → ℕ → ℕ → Met
met p offset tasks = record { open_loop = loop_after p.open_loop offset; calls = walk_calls_after p.open_loop p.calls; tasks = tasks; last = offset }

record Steps (p : Met) (i : Instr) (offset : ℕ) (op : Op) : Type 0 where
  next : walk_after p i ≡ met p offset (tasks_after p.tasks op)
  fault : (rest : List Instr) → first_fault p (i ∷ rest) ≡ or_else (first_failed (walk_checks p i rest)) (first_fault (walk_after p i) rest)

no_more : (p : Met) (offset : ℕ) → met p offset (p.tasks + 0) ≡ met p offset p.tasks
no_more p offset = let e : p.tasks + 0 ≡ p.tasks = omega arith in ap (met p offset) e

cancel_steps : (p : Met) (here : Bool) (offset nth task block sub : ℕ) → Steps p (cond here (instr.CancelHere offset nth) (instr.CancelFixed offset task)) offset (ops.Cancel (record { block = block; sub = sub }))
cancel_steps p true offset nth task block sub = record { next = no_more p offset; fault = λ rest. refl }
cancel_steps p false offset nth task block sub = record { next = no_more p offset; fault = λ rest. refl }

steps_of : (p : Met) (firsts : List ℕ) (first : ℕ) (repeated : Bool) (offset : ℕ) (op : Op) → Steps p (instr_of firsts first repeated offset op) offset op
steps_of p firsts first repeated offset (ops.Cancel target) =
    cancel_steps p (repeated && is_none (slice_get firsts target.block)) offset target.sub (unwrap_or (slice_get firsts target.block) first + target.sub) target.block target.sub
steps_of p firsts first repeated offset (ops.Schedule name delay) = record { next = refl; fault = λ rest. refl }
steps_of p firsts first repeated offset (ops.Execute name) = record { next = refl; fault = λ rest. refl }
steps_of p firsts first repeated offset (ops.Rate name delay (Some period)) = record { next = refl; fault = λ rest. refl }
steps_of p firsts first repeated offset (ops.Rate name delay None) = record { next = refl; fault = λ rest. refl }
steps_of p firsts first repeated offset (ops.Fixed name delay (Some gap)) = record { next = refl; fault = λ rest. refl }
steps_of p firsts first repeated offset (ops.Fixed name delay None) = record { next = refl; fault = λ rest. refl }
steps_of p firsts first repeated offset op = record { next = no_more p offset; fault = λ rest. refl }

-- an instruction that passes, in front of instructions without a fault
call_on : (p : Met) (firsts : List ℕ) (first : ℕ) (repeated : Bool) (offset : ℕ) (op : Op) (rest : List Instr) → Passes p (instr_of firsts first repeated offset op) rest
    → first_fault (met p offset (tasks_after p.tasks op)) rest ≡ None → first_fault p (instr_of firsts first repeated offset op ∷ rest) ≡ None
call_on p firsts first repeated offset op rest passes behind =
    let i = instr_of firsts first repeated offset op in
    let s = steps_of p firsts first repeated offset op in
    s.fault rest ∙ ap (λ (f : Option CodeFault). or_else f (first_fault (walk_after p i) rest)) (none_fails p i rest passes)
    ∙ ap (λ (q : Met). first_fault q rest) s.next ∙ behind

-- ---- a block that is made once

-- the moment of the last of some calls, where that of the call before them is `last`
abbrev last_in : ℕ → ℕ → List Call → ℕ
last_in at last [] = last
last_in at last (c ∷ cs) = last_in at (at + c.at) cs

last_in-is : (at offset : ℕ) (cs : List Call) → last_in at (at + offset) cs ≡ at + last_offset_from offset cs
last_in-is at offset [] = refl
last_in-is at offset (c ∷ cs) = last_in-is at c.at cs

last_next : (at : ℕ) (before : List Call) (c : Call) → at + c.at ≤ at + last_offset (before ++ c ∷ [])
last_next at before c = rw (last_offset-one_more 0 before c) (omega arith)

straight_ok : (earlier : PlanTree) (firsts : List ℕ) (first : ℕ) (h : Header) (before cs : List Call) (calls tasks last : ℕ) (rest : List Instr)
    → AreCallsAfter earlier h before cs → AreFirsts earlier firsts first → tasks ≡ first + tasks_after_calls 0 before → last ≤ h.at + last_offset before → calls + length cs ≤ 65536
    → first_fault (met_out (calls + length cs) (tasks_after_calls tasks cs) (last_in h.at last cs)) rest ≡ None
    → first_fault (met_out calls tasks last) (instrs_at firsts first false h.at cs ++ rest) ≡ None
straight_ok earlier firsts first h before [] calls tasks last rest ordered a is low few behind =
    let e : calls + 0 ≡ calls = omega arith in
    rw e at behind
straight_ok earlier firsts first h before (c ∷ cs) calls tasks last rest ordered a is low few behind =
    let one = ordered.0 in
    let p = met_out calls tasks last in
    let e : calls + suc (length cs) ≡ calls + 1 + length cs = omega arith in
    let fits : Fits p (h.at + c.at) = record { low = omega (arith, low, one.order); high = omega (arith, one.last); few = omega (arith, few) } in
    call_on p firsts first false (h.at + c.at) c.op (instrs_at firsts first false h.at cs ++ rest)
    (instr_passes p firsts first false (h.at + c.at) c.op (instrs_at firsts first false h.at cs ++ rest) one.limits (op_below earlier firsts first tasks before c.op a is one.aimed) (λ no_loop. cc) fits)
    (straight_ok earlier firsts first h (before ++ c ∷ []) cs (calls + 1) (tasks_after tasks c.op) (h.at + c.at) rest ordered.1 a (count_next first tasks before c is) (last_next h.at before c) (omega (arith, few))
    (subst (λ (n : ℕ). first_fault (met_out n (tasks_after_calls (tasks_after tasks c.op) cs) (last_in h.at (h.at + c.at) cs)) rest ≡ None) e behind))

-- ---- a block that is a loop

first_up : (n a b at : ℕ) → at ≤ a → (1 ≤ n → at ≤ b) → at ≤ cond (eqb n 0) a b
first_up zero a b at h k = h
first_up (suc n) a b at h k = elim (cases_Bool (eqb (suc n) 0)) [ inl is ↦ rw is h | inr isnt ↦ rw isnt (k (omega arith)) ]

loop_ok : (earlier : PlanTree) (firsts : List ℕ) (first : ℕ) (h : Header) (before cs : List Call) (made begin calls tasks last : ℕ) (rest : List Instr)
    → AreCallsAfter earlier h before cs → AreFirsts earlier firsts first → 1 < h.times → tasks ≡ first + tasks_after_calls 0 before → last ≤ h.at + last_offset before → calls ≤ 65536
    → (1 ≤ made → (h.at ≤ begin) × (last ≤ h.at + h.every)) → 1 ≤ made + length cs → calls + h.times * (made + length cs) ≤ 65536
    → first_fault (met_out (calls + h.times * (made + length cs)) (first + h.times * (tasks_after_calls tasks cs - first)) ((h.times - 1) * h.every + last_in h.at last cs)) rest ≡ None
    → first_fault (met_in h.times h.every first made begin calls tasks last) (instrs_at firsts first true h.at cs ++ instr.EndLoop ∷ rest) ≡ None
loop_ok earlier firsts first h before [] made begin calls tasks last rest ordered a many is low few begun some room behind =
    let e : made + 0 ≡ made = omega arith in
    let more : 1 ≤ made = omega (arith, some) in
    let k = begun more in
    loop_ends h.times h.every first made begin calls tasks last rest more (omega (arith, k.0, k.1)) (rw e at room) (rw e at behind)
loop_ok earlier firsts first h before (c ∷ cs) made begin calls tasks last rest ordered a many is low few begun some room behind =
    let one = ordered.0 in
    let p = met_in h.times h.every first made begin calls tasks last in
    let is_next = instrs_at firsts first true h.at cs ++ instr.EndLoop ∷ rest in
    let e : made + suc (length cs) ≡ made + 1 + length cs = omega arith in
    let fits : Fits p (h.at + c.at) = record { low = omega (arith, low, one.order); high = omega (arith, one.last); few = few } in
    let room_next : calls + h.times * (made + 1 + length cs) ≤ 65536 = rw e at room in
    let within = offset_within h c.at many one.within in
    call_on p firsts first true (h.at + c.at) c.op is_next
    (instr_passes p firsts first true (h.at + c.at) c.op is_next one.limits (op_below earlier firsts first tasks before c.op a is one.aimed) (λ loop nth lower. leb_not (tasks - first) nth (omega (arith, lower))) fits)
    (loop_ok earlier firsts first h (before ++ c ∷ []) cs (made + 1) (cond (eqb made 0) (h.at + c.at) begin) calls (tasks_after tasks c.op) (h.at + c.at) rest ordered.1 a many (count_next first tasks before c is) (last_next h.at before c) few
    (λ m. (first_up made (h.at + c.at) begin h.at (omega arith) (λ q. (begun q).0), omega (arith, within))) (omega arith) room_next
    (subst (λ (n : ℕ). first_fault (met_out (calls + h.times * n) (first + h.times * (tasks_after_calls (tasks_after tasks c.op) cs - first)) ((h.times - 1) * h.every + last_in h.at (h.at + c.at) cs)) rest ≡ None) e behind))

-- ---- the whole plan

-- the code of a block, in front of instructions without a fault
block_ok : (earlier : PlanTree) (firsts : List ℕ) (first : ℕ) (h : Header) (cs : List Call) (calls last : ℕ) (rest : List Instr)
    → IsBlockAfter earlier (record { header = h; calls = cs }) → AreFirsts earlier firsts first → last ≤ h.at → calls ≤ 65536 → calls + h.times * length cs ≤ 65536
    → first_fault (met_out (calls + h.times * length cs) (first + h.times * tasks_after_calls 0 cs) (end_of_block last h cs)) rest ≡ None
    → first_fault (met_out calls first last) (block_instrs firsts first h cs ++ rest) ≡ None
block_ok earlier firsts first h [] calls last rest block a low few room behind =
    let e : calls + h.times * 0 ≡ calls = omega arith in
    let f : first + h.times * 0 ≡ first = omega arith in
    rw (e, f) at behind
block_ok earlier firsts first h (c ∷ cs) calls last rest block a low few room behind =
    let n = length (c ∷ cs) in
    let t = tasks_after_calls 0 (c ∷ cs) in
    let p = met_out calls first last in
    let loop = instrs_at firsts first true h.at (c ∷ cs) in
    let plain = instrs_at firsts first false h.at (c ∷ cs) in
    let counted : tasks_after_calls first (c ∷ cs) ≡ first + t = tasks_after_calls-from first (c ∷ cs) in
    let ends : last_in h.at last (c ∷ cs) ≡ h.at + last_offset_from c.at cs = last_in-is h.at c.at cs in
    elim (cases_Bool (nat_lt 1 h.times)) [
      | inl more ↦ (
          let many = ltb-true 1 h.times more in
          let counts : first + h.times * (tasks_after_calls first (c ∷ cs) - first) ≡ first + h.times * t = (let e : tasks_after_calls first (c ∷ cs) - first ≡ t = omega (arith, counted) in ap (λ (m : ℕ). first + h.times * m) e) in
          let last_is : (h.times - 1) * h.every + last_in h.at last (c ∷ cs) ≡ end_of_block last h (c ∷ cs) = omega (arith, ends) in
          let whole : 0 + length (c ∷ cs) ≡ length (c ∷ cs) = omega arith in
          let is = instrs_at firsts first true h.at (c ∷ cs) ++ instr.EndLoop ∷ rest in
          ap (λ (test : Bool). first_fault p (cond test (instr.Loop h.times h.every ∷ (loop ++ instr.EndLoop ∷ [])) plain ++ rest)) more
          ∙ ap (λ (xs : List Instr). first_fault p (instr.Loop h.times h.every ∷ xs)) (append_assoc loop (instr.EndLoop ∷ []) rest)
          ∙ loop_begins h.times h.every calls first last is block.least block.most block.every
          (loop_ok earlier firsts first h [] (c ∷ cs) 0 0 calls first last rest block.calls a many (omega arith) (omega (arith, low)) few (λ m. absurd (omega (arith, m))) (omega arith) (rw whole room) (rw (whole, counts, last_is) behind)))
      | inr single ↦ (
          let one : h.times ≡ 1 = omega (arith, block.least, ltb-false 1 h.times single) in
          let calls_is : calls + n ≡ calls + h.times * n = rw one (omega arith) in
          let tasks_is : tasks_after_calls first (c ∷ cs) ≡ first + h.times * t = rw one (omega (arith, counted)) in
          let zeros : (h.times - 1) * h.every ≡ 0 = rw one (omega arith) in
          let last_is : last_in h.at last (c ∷ cs) ≡ end_of_block last h (c ∷ cs) = omega (arith, ends, zeros) in
          ap (λ (test : Bool). first_fault p (cond test (instr.Loop h.times h.every ∷ (loop ++ instr.EndLoop ∷ [])) plain ++ rest)) single
          ∙ straight_ok earlier firsts first h [] (c ∷ cs) calls first last rest block.calls a (omega arith) (omega (arith, low)) (rw calls_is room)
          (rw (calls_is, tasks_is, last_is) behind))
    ]

blocks_ok : (earlier bs : PlanTree) (firsts : List ℕ) (first : ℕ) → AreBlocksAfter earlier bs → AreFirsts earlier firsts first → made_by earlier ≤ 65536
    → first_fault (met_out (made_by earlier) first (end_of earlier)) (instrs_from firsts first bs) ≡ None
blocks_ok earlier [] firsts first ordered a few = refl
blocks_ok earlier (b ∷ bs) firsts first ordered a few =
    let block = ordered.0 in
    let more = first + b.header.times * block_tasks b in
    let made_is = made_from_one_more 0 earlier b in
    let end_is = end_from_one_more 0 earlier b in
    let behind = blocks_ok (earlier ++ b ∷ []) bs (firsts ++ first ∷ []) more ordered.1 (firsts_next earlier firsts first b block.least a) (rw made_is block.total) in
    block_ok earlier firsts first b.header b.calls (made_by earlier) (end_of earlier) (instrs_from (firsts ++ first ∷ []) more bs) block a block.order few block.total
    (rw (made_is, end_is) at behind)

-- the code of a plan has no fault
pub code_has_no_fault : (blocks : PlanTree) → IsOrdered blocks → code_fault (instrs_of blocks) ≡ None
code_has_no_fault blocks ordered = fault_is (instrs_of blocks) ∙ blocks_ok [] blocks [] 0 ordered.1 firsts_start (omega arith)
