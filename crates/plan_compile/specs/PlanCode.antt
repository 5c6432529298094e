-- The instructions of a plan's code, in which a repeated block stands once, as a loop.
-- All of it is this project's rule, but for `execute`, as in `PlanCalls`.
use Rattle.std.specs.Prelude.{ℕ, ◌+◌, ◌*◌, ◌≤◌, nat_lt, Bool, true, false, ◌&&◌, if◌then◌else◌, List, [], ◌∷◌, ◌++◌, Some, None, is_none, slice_get}
use Rattle.sched_time.specs.declared.timing.Timing.{Timing}
use Rattle.sched_time.specs.declared.timing.Timing.TheVariants as t
use Rattle.queue_code.specs.declared.instr.Instr.{Instr}
use Rattle.queue_code.specs.declared.instr.Instr.TheVariants as instr
use Rattle.plan_read.specs.declared.plans.Call.{Call}
use Rattle.plan_read.specs.declared.plans.Header.{Header}
use Rattle.plan_read.specs.declared.plans.Op.{Op}
use Rattle.plan_read.specs.declared.plans.Op.TheVariants as ops
use Rattle.plan_read.specs.declared.plans.Target.{Target}
use Rattle.plan_read.specs.Plans.{PlanTree}
use Rattle.plan_compile.specs.PlanCalls.{target_number, block_tasks}

-- a cancel's target is in the cancel's own block, and in none of those before it, whose first numbers `firsts` has
abbrev pub is_own : List ℕ → Target → Bool
is_own firsts target = is_none (slice_get firsts target.block)

-- a cancel in a block that begins with the number `first`: in a loop, a target of its own block is named by how many submissions of the
-- iteration come before it, and every other target by its number in the plan
abbrev pub cancel_instr : List ℕ → ℕ → Bool → ℕ → Target → Instr
cancel_instr firsts first repeated offset target =
    if repeated && is_own firsts target then instr.CancelHere offset target.sub else instr.CancelFixed offset (target_number firsts first target)

-- the instruction of an operation
abbrev pub instr_of : List ℕ → ℕ → Bool → ℕ → Op → Instr
instr_of firsts first repeated offset (ops.Schedule name delay) = instr.Submit offset t.Once delay
instr_of firsts first repeated offset (ops.Execute name) = instr.Submit offset t.Once 0
instr_of firsts first repeated offset (ops.Rate name delay (Some period)) = instr.Submit offset (t.Rate period) delay
instr_of firsts first repeated offset (ops.Rate name delay None) = instr.Illegal offset
instr_of firsts first repeated offset (ops.Fixed name delay (Some gap)) = instr.Submit offset (t.Fixed gap) delay
instr_of firsts first repeated offset (ops.Fixed name delay None) = instr.Illegal offset
instr_of firsts first repeated offset (ops.Cancel target) = cancel_instr firsts first repeated offset target
instr_of firsts first repeated offset (ops.Policy which value) = instr.SetPolicy offset which value
instr_of firsts first repeated offset ops.Shutdown = instr.Shutdown offset
instr_of firsts first repeated offset ops.ShutdownNow = instr.ShutdownNow offset
instr_of firsts first repeated offset ops.Ask = instr.Ask offset

-- the instructions of some calls of a block that begins at the moment `at`: the call with offset o stands at `at + o`
abbrev pub instrs_at : List ℕ → ℕ → Bool → ℕ → List Call → List Instr
instrs_at firsts first repeated at [] = []
instrs_at firsts first repeated at (c ∷ cs) = instr_of firsts first repeated (at + c.at) c.op ∷ instrs_at firsts first repeated at cs

-- those of a block: none where it has no calls, and a loop where it is made more than once
abbrev pub block_instrs : List ℕ → ℕ → Header → List Call → List Instr
block_instrs firsts first h [] = []
block_instrs firsts first h (c ∷ cs) =
    if nat_lt 1 h.times
    then instr.Loop h.times h.every ∷ (instrs_at firsts first true h.at (c ∷ cs) ++ instr.EndLoop ∷ [])
    else instrs_at firsts first false h.at (c ∷ cs)

-- those of some blocks, where `first` submissions stand before them, and `firsts` has the first number of each block before; a halt is the
-- last
abbrev pub instrs_from : List ℕ → ℕ → PlanTree → List Instr
instrs_from firsts first [] = instr.Halt ∷ []
instrs_from firsts first (b ∷ bs) =
    block_instrs firsts first b.header b.calls ++ instrs_from (firsts ++ first ∷ []) (first + b.header.times * block_tasks b) bs

-- the instructions of a plan
abbrev pub instrs_of : PlanTree → List Instr
instrs_of blocks = instrs_from [] 0 blocks

-- a period, or a fixed delay, is 1 nanosecond at least: no run is due at the very moment at which the one before was due, or ended
abbrev pub IsPositive : Timing → Type 0
IsPositive t.Once = Unit {0}
IsPositive (t.Rate period) = 1 ≤ period
IsPositive (t.Fixed delay) = 1 ≤ delay

-- a submission has no period and no fixed delay of 0
abbrev pub HasNoZeroPeriod : Instr → Type 0
HasNoZeroPeriod (instr.Submit offset timing delay) = IsPositive timing
HasNoZeroPeriod i = Unit {0}
