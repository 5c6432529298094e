-- A plan's code has no period and no fixed delay of 0.
use Rattle.std.proofs.Common.{ℕ, ◌+◌, ◌*◌, Bool, true, false, cond, ◌&&◌, List, [], ◌∷◌, ◌++◌, Some, None}
use Rattle.std.specs.List.{All}
use Rattle.std.specs.Prelude.{slice_get, unwrap_or, is_none, nat_lt}
use Rattle.std.proofs.lemmas.List.Elements.{All-nil, All-cons, All-append}
use Rattle.queue_code.specs.declared.instr.Instr.{Instr}
use Rattle.queue_code.specs.declared.instr.Instr.TheVariants as instr
use Rattle.plan_read.specs.declared.plans.Call.{Call}
use Rattle.plan_read.specs.declared.plans.Header.{Header}
use Rattle.plan_read.specs.declared.plans.Op.{Op}
use Rattle.plan_read.specs.declared.plans.Op.TheVariants as ops
use Rattle.plan_read.specs.Plans.{PlanTree, IsWithinLimits, AreCallsAfter, AreBlocksAfter, IsOrdered}
use Rattle.plan_compile.specs.PlanCalls.{block_tasks}
use Rattle.plan_compile.specs.PlanCode.{instr_of, instrs_at, block_instrs, instrs_from, instrs_of, HasNoZeroPeriod}

a_cancel : (here : Bool) (offset nth task : ℕ) → HasNoZeroPeriod (cond here (instr.CancelHere offset nth) (instr.CancelFixed offset task))
a_cancel true offset nth task = tt
a_cancel false offset nth task = tt

-- the instruction of an operation
an_op : (firsts : List ℕ) (first : ℕ) (repeated : Bool) (offset : ℕ) (op : Op) → IsWithinLimits op → HasNoZeroPeriod (instr_of firsts first repeated offset op)
an_op firsts first repeated offset (ops.Cancel target) limits =
    a_cancel (repeated && is_none (slice_get firsts target.block)) offset target.sub (unwrap_or (slice_get firsts target.block) first + target.sub)
an_op firsts first repeated offset (ops.Rate name delay (Some period)) limits = limits.1.0
an_op firsts first repeated offset (ops.Rate name delay None) limits = tt
an_op firsts first repeated offset (ops.Fixed name delay (Some gap)) limits = limits.1.0
an_op firsts first repeated offset (ops.Fixed name delay None) limits = tt
an_op firsts first repeated offset op limits = tt

-- those of some calls of a block
some_calls : (earlier : PlanTree) (firsts : List ℕ) (first : ℕ) (repeated : Bool) (at : ℕ) (h : Header) (before cs : List Call) → AreCallsAfter earlier h before cs
    → All HasNoZeroPeriod (instrs_at firsts first repeated at cs)
some_calls earlier firsts first repeated at h before [] ordered = All-nil HasNoZeroPeriod
some_calls earlier firsts first repeated at h before (c ∷ cs) ordered =
    All-cons HasNoZeroPeriod (instr_of firsts first repeated (at + c.at) c.op) (instrs_at firsts first repeated at cs) (an_op firsts first repeated (at + c.at) c.op ordered.0.limits)
    (some_calls earlier firsts first repeated at h (before ++ c ∷ []) cs ordered.1)

in_a_loop : (many : Bool) (h : Header) (loop plain : List Instr) → All HasNoZeroPeriod loop → All HasNoZeroPeriod plain
    → All HasNoZeroPeriod (cond many (instr.Loop h.times h.every ∷ (loop ++ instr.EndLoop ∷ [])) plain)
in_a_loop true h loop plain inside outside =
    All-cons HasNoZeroPeriod (instr.Loop h.times h.every) (loop ++ instr.EndLoop ∷ []) tt
    (All-append HasNoZeroPeriod loop (instr.EndLoop ∷ []) inside (All-cons HasNoZeroPeriod instr.EndLoop [] tt (All-nil HasNoZeroPeriod)))
in_a_loop false h loop plain inside outside = outside

-- those of a block
a_block : (earlier : PlanTree) (firsts : List ℕ) (first : ℕ) (h : Header) (cs : List Call) → AreCallsAfter earlier h [] cs → All HasNoZeroPeriod (block_instrs firsts first h cs)
a_block earlier firsts first h [] ordered = All-nil HasNoZeroPeriod
a_block earlier firsts first h (c ∷ cs) ordered =
    in_a_loop (nat_lt 1 h.times) h (instrs_at firsts first true h.at (c ∷ cs)) (instrs_at firsts first false h.at (c ∷ cs))
    (some_calls earlier firsts first true h.at h [] (c ∷ cs) ordered) (some_calls earlier firsts first false h.at h [] (c ∷ cs) ordered)

some_blocks : (earlier bs : PlanTree) (firsts : List ℕ) (first : ℕ) → AreBlocksAfter earlier bs → All HasNoZeroPeriod (instrs_from firsts first bs)
some_blocks earlier [] firsts first ordered = All-cons HasNoZeroPeriod instr.Halt [] tt (All-nil HasNoZeroPeriod)
some_blocks earlier (b ∷ bs) firsts first ordered =
    let rest = instrs_from (firsts ++ first ∷ []) (first + b.header.times * block_tasks b) bs in
    All-append HasNoZeroPeriod (block_instrs firsts first b.header b.calls) rest (a_block earlier firsts first b.header b.calls ordered.0.calls)
    (some_blocks (earlier ++ b ∷ []) bs (firsts ++ first ∷ []) (first + b.header.times * block_tasks b) ordered.1)

-- those of a plan
pub no_zero_periods : (blocks : PlanTree) → IsOrdered blocks → All HasNoZeroPeriod (instrs_of blocks)
no_zero_periods blocks ordered = some_blocks [] blocks [] 0 ordered.1
