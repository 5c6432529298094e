use Rattle.std.proofs.Common.{◌≡◌, ◌++◌, map}
use Rattle.plan_compile.specs.Submissions.{submissions_of_plan}
use Rattle.plan_compile.proofs.names.names_of_tasks.Given as goal

-- the names so far, and those of the submissions that are left
abbrev pub invariant-loop-submission : goal.invariant-loop-submission
invariant-loop-submission g l = map (λ n. n.now) l.names.items ++ map (λ s. s.name) l.submissions ≡ map (λ s. s.name) (submissions_of_plan l.plan)
