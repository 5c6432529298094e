-- What a plan calls does not depend on the units that its blocks keep.
use Rattle.std.proofs.Common.{◌≡◌, ℕ, zero, suc, ◌+◌, ◌*◌, List, [], ◌∷◌, ◌++◌, refl, ap}
use Rattle.queue_code.specs.declared.call.CodeCall.{CodeCall}
use Rattle.plan_read.specs.Migrating.{block_in_nanoseconds, in_nanoseconds}
use Rattle.plan_read.specs.Plans.{BlockTree, PlanTree}
use Rattle.plan_compile.specs.PlanCalls.{block_tasks, block_iterations, calls_of_blocks, calls_of_plan}

same_iterations : (firsts : List ℕ) (first : ℕ) (b : BlockTree) (n : ℕ) → block_iterations firsts first (block_in_nanoseconds b) n ≡ block_iterations firsts first b n
same_iterations firsts first b zero = refl
same_iterations firsts first b (suc r) = rw (same_iterations firsts first b r) refl

same_blocks : (firsts : List ℕ) (first : ℕ) (blocks : PlanTree) → calls_of_blocks firsts first (in_nanoseconds blocks) ≡ calls_of_blocks firsts first blocks
same_blocks firsts first [] = refl
same_blocks firsts first (b ∷ bs) =
    let rest : calls_of_blocks (firsts ++ first ∷ []) (first + b.header.times * block_tasks b) (in_nanoseconds bs) ≡ calls_of_blocks (firsts ++ first ∷ []) (first + b.header.times * block_tasks b) bs =
    same_blocks (firsts ++ first ∷ []) (first + b.header.times * block_tasks b) bs in
    rw (same_iterations firsts first b b.header.times) (ap (λ (calls : List (ℕ × CodeCall)). block_iterations firsts first b b.header.times ++ calls) rest)

pub same_calls : (plan : PlanTree) → calls_of_plan (in_nanoseconds plan) ≡ calls_of_plan plan
same_calls plan = same_blocks [] 0 plan
