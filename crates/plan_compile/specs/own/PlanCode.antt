-- Beside `specs/PlanCode`: what only private contracts and proofs cite.
-- All of it is this project's rule.
use Rattle.std.specs.Prelude.{ℕ, ◌+◌, ◌≤◌, ◌<◌, List, [], ◌∷◌}
use Rattle.sched_time.specs.Times.{longest}
use Rattle.queue_code.specs.Calls.{most_calls_of_code}
use Rattle.plan_read.specs.declared.plans.Call.{Call}
use Rattle.plan_read.specs.declared.plans.Op.{Op}
use Rattle.plan_read.specs.declared.plans.Op.TheVariants as ops
use Rattle.plan_compile.specs.PlanCalls.{target_number}

-- a cancel's target has a number below `limit`, where `firsts` has the first numbers of the blocks before its own, which begins with `first`
abbrev pub IsBelow : List ℕ → ℕ → ℕ → Op → Type 0
IsBelow firsts first limit (ops.Cancel target) = target_number firsts first target < limit
IsBelow firsts first limit _ = Unit {0}

-- the numbers of some calls' instructions are in range: their offsets, and those of the targets of cancels
abbrev pub AreInRange : List ℕ → ℕ → ℕ → List Call → Type 0
AreInRange firsts first at [] = Unit {0}
AreInRange firsts first at (c ∷ cs) = (at + c.at ≤ longest) × IsBelow firsts first most_calls_of_code c.op × AreInRange firsts first at cs
