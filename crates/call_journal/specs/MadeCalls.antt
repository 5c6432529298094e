-- The calls of an executor that the calls of a journal are, and what the plan of them makes.
-- All of it is this project's rule, but for `execute`, the row of `call.Execute` (ScheduledThreadPoolExecutor.execute of Java SE 17:
-- "Executes command with zero required delay. This has effect equivalent to schedule(command, 0, anyUnit).").
use Rattle.std.specs.Prelude.{◌≡◌, ℕ, List, [], ◌∷◌}
use Rattle.std.specs.List.{AllByRecursion}
use Rattle.sched_time.specs.declared.timing.Timing.TheVariants as timing
use Rattle.queue_code.specs.declared.call.CodeCall.{CodeCall}
use Rattle.queue_code.specs.declared.call.CodeCall.TheVariants as made
use Rattle.queue_code.specs.Calls.{Planned, IsPlanned}
use Rattle.call_text.specs.declared.call.CallLine.{CallLine}
use Rattle.call_text.specs.declared.call.CallLine.TheVariants as call
use Rattle.call_text.specs.Spelling.{FitsCall}
use Rattle.plan_read.specs.declared.versions.Version.TheVariants.{Two}
use Rattle.plan_read.specs.Plans.{PlanTree}
use Rattle.plan_read.specs.Texts.{TextWrites}
use Rattle.plan_read.specs.Writes.{TreeWritesIn}
use Rattle.plan_compile.specs.PlanCalls.{calls_of_plan}
use Rattle.call_journal.specs.declared.journal.MadeCall.{MadeCall}
use Rattle.call_journal.specs.Plans.{task_after, tree_of_calls}

-- ---- the calls of the executor

-- the call of the executor that was made, as the submission of this number where it submits a task
abbrev pub code_of : ℕ → CallLine → CodeCall
code_of task (call.Schedule delay) = made.Submit task timing.Once delay
code_of task call.Execute = made.Submit task timing.Once 0
code_of task (call.Rate first period) = made.Submit task (timing.Rate period) first
code_of task (call.Fixed first delay) = made.Submit task (timing.Fixed delay) first
code_of task (call.Cancel other) = made.Cancel other
code_of task (call.Policy which value) = made.SetPolicy which value
code_of task call.Shutdown = made.Shutdown
code_of task call.ShutdownNow = made.ShutdownNow
code_of task call.Ask = made.Ask

-- some calls, each with its moment, where `task` tasks were submitted before them
abbrev pub numbered_calls : ℕ → List MadeCall → List Planned
numbered_calls task [] = []
numbered_calls task (c ∷ cs) = (c.moment, code_of task c.call) ∷ numbered_calls (task_after task c.call) cs

-- the calls of a journal: submissions are numbered 0, 1, .. in their order
abbrev pub executor_calls : List MadeCall → List Planned
executor_calls calls = numbered_calls 0 calls

-- ---- the plan

-- A plan may make these calls: as those of the executor they are few enough and in order, and the spans of each are in the ranges
-- that a line of it has.
abbrev pub MayBePlanned : List MadeCall → Type 0
MayBePlanned calls = IsPlanned (executor_calls calls) × AllByRecursion (λ (c : MadeCall). FitsCall c.call) calls

-- the plan makes exactly these calls, each at its moment
abbrev pub MakesCalls : PlanTree → List MadeCall → Type 0
MakesCalls plan calls = calls_of_plan plan ≡ executor_calls calls

-- a text writes a plan that makes exactly these calls
abbrev pub WritesPlanOf : List ℕ → List MadeCall → Type 0
WritesPlanOf text calls = (plan : PlanTree) × TextWrites text plan × MakesCalls plan calls

-- the tree of calls which a plan may make writes a plan of version 2, and that makes exactly these calls
abbrev pub TreesMakeTheCalls : Type 0
TreesMakeTheCalls = (calls : List MadeCall) → MayBePlanned calls → (plan : PlanTree) × TreeWritesIn Two (tree_of_calls calls) plan × MakesCalls plan calls
