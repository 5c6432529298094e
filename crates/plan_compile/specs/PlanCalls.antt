-- The calls that a plan makes, with their moments.
-- All of it is this project's rule, but for `execute`, the row of `ops.Execute` (ScheduledThreadPoolExecutor.execute of Java SE 17:
-- "Executes command with zero required delay. This has effect equivalent to schedule(command, 0, anyUnit).").
use Rattle.std.specs.Prelude.{ℕ, zero, suc, ◌+◌, ◌*◌, List, [], ◌∷◌, ◌++◌, Some, None, unwrap_or, slice_get}
use Rattle.sched_time.specs.declared.timing.Timing.TheVariants as t
use Rattle.queue_code.specs.declared.call.CodeCall.{CodeCall}
use Rattle.queue_code.specs.declared.call.CodeCall.TheVariants as made
use Rattle.plan_read.specs.declared.plans.Call.{Call}
use Rattle.plan_read.specs.declared.plans.Op.{Op}
use Rattle.plan_read.specs.declared.plans.Op.TheVariants as ops
use Rattle.plan_read.specs.declared.plans.Target.{Target}
use Rattle.plan_read.specs.Plans.{BlockTree, PlanTree, tasks_after, tasks_after_calls}

-- the number of a cancel's target: submissions are numbered 0, 1, .. in the order of their calls. `firsts` has the first number of
-- each block before the cancel's own, and `start` is the first one of its own iteration
abbrev pub target_number : List ℕ → ℕ → Target → ℕ
target_number firsts start target = unwrap_or (slice_get firsts target.block) start + target.sub

-- the call that an operation asks for, where `task` submissions stand before it
-- (a submission with no legal period or fixed delay is a call too, and has a number)
abbrev pub code_call : List ℕ → ℕ → ℕ → Op → CodeCall
code_call firsts start task (ops.Schedule name delay) = made.Submit task t.Once delay
code_call firsts start task (ops.Execute name) = made.Submit task t.Once 0
code_call firsts start task (ops.Rate name first (Some period)) = made.Submit task (t.Rate period) first
code_call firsts start task (ops.Rate name first None) = made.Illegal task
code_call firsts start task (ops.Fixed name first (Some delay)) = made.Submit task (t.Fixed delay) first
code_call firsts start task (ops.Fixed name first None) = made.Illegal task
code_call firsts start task (ops.Cancel target) = made.Cancel (target_number firsts start target)
code_call firsts start task (ops.Policy which value) = made.SetPolicy which value
code_call firsts start task ops.Shutdown = made.Shutdown
code_call firsts start task ops.ShutdownNow = made.ShutdownNow
code_call firsts start task ops.Ask = made.Ask

-- some calls of an iteration that begins at the moment `base` and after `start` submissions, where `task` stand before these: the
-- call with offset o is made at `base + o`
abbrev pub calls_at : List ℕ → ℕ → ℕ → ℕ → List Call → List (ℕ × CodeCall)
calls_at firsts base start task [] = []
calls_at firsts base start task (c ∷ cs) =
    (base + c.at, code_call firsts start task c.op) ∷ calls_at firsts base start (tasks_after task c.op) cs

-- how many submissions each iteration of a block makes
abbrev pub block_tasks : BlockTree → ℕ
block_tasks b = tasks_after_calls 0 b.calls

-- the calls of iteration r of a block, counted from 0, where `first` submissions stand before the block: it begins at
-- `at + r * every`
abbrev pub block_iteration : List ℕ → ℕ → BlockTree → ℕ → List (ℕ × CodeCall)
block_iteration firsts first b r =
    calls_at firsts (b.header.at + r * b.header.every) (first + r * block_tasks b) (first + r * block_tasks b) b.calls

-- the calls of the first n iterations of a block
abbrev pub block_iterations : List ℕ → ℕ → BlockTree → ℕ → List (ℕ × CodeCall)
block_iterations firsts first b zero = []
block_iterations firsts first b (suc r) = block_iterations firsts first b r ++ block_iteration firsts first b r

-- the calls of some blocks, where `first` submissions stand before them, and `firsts` has the first number of each block before
abbrev pub calls_of_blocks : List ℕ → ℕ → PlanTree → List (ℕ × CodeCall)
calls_of_blocks firsts first [] = []
calls_of_blocks firsts first (b ∷ bs) =
    block_iterations firsts first b b.header.times ++ calls_of_blocks (firsts ++ first ∷ []) (first + b.header.times * block_tasks b) bs

-- the calls of a plan with their moments: block by block, iteration by iteration, call by call
abbrev pub calls_of_plan : PlanTree → List (ℕ × CodeCall)
calls_of_plan blocks = calls_of_blocks [] 0 blocks
