-- One turn of each loop that emits a plan's instructions.
use Rattle.std.proofs.Common.{◌≡◌, ℕ, ◌+◌, ◌*◌, ◌≤◌, ◌<◌, Bool, List, [], ◌∷◌, ◌++◌, length, get_or, drop, take, sym, ◌∙◌, ap, arith, append_assoc}
use Rattle.std.proofs.lemmas.List.{drop_more, take_more}
use Rattle.std.proofs.lemmas.Nat.{mul-le}
use Rattle.queue_code.specs.declared.instr.Instr.{Instr}
use Rattle.plan_read.specs.declared.plans.Call.{Call}
use Rattle.plan_read.specs.declared.plans.Header.{Header}
use Rattle.plan_read.specs.declared.plans.Op.{Op}
use Rattle.plan_read.specs.declared.plans.Op.TheVariants as ops
use Rattle.plan_read.specs.Plans.{BlockTree, PlanTree, tasks_after, tasks_after_calls, made_by, AreCallsAfter, AreBlocksAfter}
use Rattle.plan_read.proofs.Accepted.{made_from_one_more}
use Rattle.plan_compile.specs.PlanCalls.{block_tasks}
use Rattle.plan_compile.specs.PlanCode.{instrs_at, block_instrs, instrs_from, instrs_of}
use Rattle.plan_compile.specs.own.PlanCode.{IsBelow, AreInRange}
use Rattle.plan_compile.proofs.Counting.{tasks_after-le, tasks_of-le}
use Rattle.plan_compile.proofs.Ordering.{AreFirsts, firsts_next, op_below, count_next}

-- ---- what is left at an index

-- the calls left at an index
pub next_call : (cs : List Call) (i : ℕ) (c : Call) → i < length cs → c ≡ get_or cs i c → drop i cs ≡ c ∷ drop (i + 1) cs
next_call cs i c h is = drop_more cs i c h ∙ ap (λ (d : Call). d ∷ drop (i + 1) cs) (sym is)

-- the blocks left at an index
pub next_block : (bs : PlanTree) (i : ℕ) (b : BlockTree) → i < length bs → b ≡ get_or bs i b → drop i bs ≡ b ∷ drop (i + 1) bs
next_block bs i b h is = drop_more bs i b h ∙ ap (λ (d : BlockTree). d ∷ drop (i + 1) bs) (sym is)

-- the blocks before the next
pub past_block : (bs : PlanTree) (i : ℕ) (b : BlockTree) → i < length bs → b ≡ get_or bs i b → take (i + 1) bs ≡ take i bs ++ b ∷ []
past_block bs i b h is = take_more bs i b h ∙ ap (λ (d : BlockTree). take i bs ++ d ∷ []) (sym is)

-- ---- the calls of a block

-- where `rest` of a block's calls is still to be emitted, behind `out`
pub record InstrsLeft (firsts : List ℕ) (first : ℕ) (repeated : Bool) (at : ℕ) (all : List Call) (old out : List Instr) (rest : List Call) : Type 0 where
  pub done : out ++ instrs_at firsts first repeated at rest ≡ old ++ instrs_at firsts first repeated at all
  pub range : AreInRange firsts first at rest

-- ---- the blocks of a plan

below_more : (firsts : List ℕ) (first task limit : ℕ) (op : Op) → task ≤ limit → IsBelow firsts first task op → IsBelow firsts first limit op
below_more firsts first task limit (ops.Cancel target) le below = omega (arith, le, below)
below_more firsts first task limit op le below = below

calls_in_range : (earlier : PlanTree) (firsts : List ℕ) (first : ℕ) (h : Header) (before cs : List Call) (task : ℕ)
    → AreCallsAfter earlier h before cs → AreFirsts earlier firsts first → task ≡ first + tasks_after_calls 0 before → task + length cs ≤ 65536 → AreInRange firsts first h.at cs
calls_in_range earlier firsts first h before [] task ordered a is few = tt
calls_in_range earlier firsts first h before (c ∷ cs) task ordered a is few =
    let one = ordered.0 in (
      omega (arith, one.last),
      below_more firsts first task 65536 c.op (omega (arith, few)) (op_below earlier firsts first task before c.op a is one.aimed),
      calls_in_range earlier firsts first h (before ++ c ∷ []) cs (tasks_after task c.op) ordered.1 a (count_next first task before c is) (omega (arith, few, tasks_after-le task c.op)),
    )

-- where `rest` of a plan's blocks is still to be emitted, behind `out`
pub record BlocksToEmit (all earlier rest : PlanTree) (firsts : List ℕ) (first : ℕ) (out : List Instr) : Type 0 where
  pub done : out ++ instrs_from firsts first rest ≡ instrs_of all
  pub ordered : AreBlocksAfter earlier rest
  pub known : AreFirsts earlier firsts first
  pub few : first ≤ made_by earlier
  pub made : made_by earlier ≤ 65536

-- the submissions of a block are no more than its calls
tasks_times : (b : BlockTree) → b.header.times * block_tasks b ≤ b.header.times * length b.calls
tasks_times b = mul-le b.header.times (block_tasks b) b.header.times (length b.calls) (omega arith) (tasks_of-le b)

-- the numbers of the next block are in range
pub block_in_range : (all earlier rest : PlanTree) (firsts : List ℕ) (first : ℕ) (out : List Instr) (b : BlockTree) → BlocksToEmit all earlier (b ∷ rest) firsts first out
    → AreInRange firsts first b.header.at b.calls
block_in_range all earlier rest firsts first out b left =
    let block = left.ordered.0 in
    let single : 1 * length b.calls ≤ b.header.times * length b.calls = mul-le 1 (length b.calls) b.header.times (length b.calls) block.least (omega arith) in
    calls_in_range earlier firsts first b.header [] b.calls first block.calls left.known (omega arith) (omega (arith, left.few, block.total, single))

-- the number behind the next block is in range
pub numbers_in_range : (all earlier rest : PlanTree) (firsts : List ℕ) (first : ℕ) (out : List Instr) (b : BlockTree) → BlocksToEmit all earlier (b ∷ rest) firsts first out
    → first + b.header.times * block_tasks b ≤ 65536
numbers_in_range all earlier rest firsts first out b left = omega (arith, left.few, left.ordered.0.total, tasks_times b)

-- after the next block
pub block_emitted : (all earlier rest : PlanTree) (firsts : List ℕ) (first : ℕ) (out : List Instr) (b : BlockTree) → BlocksToEmit all earlier (b ∷ rest) firsts first out
    → BlocksToEmit all (earlier ++ b ∷ []) rest (firsts ++ first ∷ []) (first + b.header.times * block_tasks b) (out ++ block_instrs firsts first b.header b.calls)
block_emitted all earlier rest firsts first out b left =
    let block = left.ordered.0 in
    let more = made_from_one_more 0 earlier b in
    record {
      done = append_assoc out (block_instrs firsts first b.header b.calls) (instrs_from (firsts ++ first ∷ []) (first + b.header.times * block_tasks b) rest) ∙ left.done;
      ordered = left.ordered.1;
      known = firsts_next earlier firsts first b block.least left.known;
      few = rw more (omega (arith, left.few, tasks_times b));
      made = rw more block.total;
    }
