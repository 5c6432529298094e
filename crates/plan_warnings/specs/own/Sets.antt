-- Sets of submissions.
use Rattle.std.specs.Prelude.{ℕ, ◌==◌, ◌&&◌, Bool}
use Rattle.std.specs.HashSet.{contains}
use Rattle.plan_read.specs.declared.plans.Target.{Target}
use Rattle.plan_warnings.specs.declared.targets.Targets.{Targets}

-- two keys are one
abbrev pub is_same_key : ℕ × ℕ → ℕ × ℕ → Bool
is_same_key x y = (x.0 == y.0) && (x.1 == y.1)

-- a set has a submission
abbrev pub has_target : {A : Type 0} → Targets A → Target → Bool
has_target targets t = contains is_same_key targets.keys (t.block, t.sub)
