-- What is left at a place of a plan.
-- All of it is this project's rule.
use Rattle.std.specs.Prelude.{ℕ, ◌-◌, ◌≤◌, List, [], ◌∷◌, ◌++◌, flat_map}
use Rattle.std.specs.List.{range_with_len}
use Rattle.sched_time.specs.Times.{longest}
use Rattle.plan_read.specs.Plans.{PlanTree}
use Rattle.plan_compile.specs.Submissions.{Timed, iteration_ops, plan_ops}

-- the operations of some blocks, where those of the first r iterations of the first block are left out
abbrev pub ops_from : ℕ → PlanTree → List Timed
ops_from r [] = []
ops_from r (b ∷ bs) = flat_map (iteration_ops b) (range_with_len r (b.header.times - r)) ++ plan_ops bs

-- no moment is above the limit
abbrev pub AreInTime : List Timed → Type 0
AreInTime [] = Unit {0}
AreInTime (o ∷ os) = (o.0 ≤ longest) × AreInTime os
