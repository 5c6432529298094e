-- The operations of a plan, iteration by iteration.
use Rattle.std.proofs.Common.{◌≡◌, ℕ, zero, suc, ◌+◌, ◌-◌, ◌*◌, ◌≤◌, ◌<◌, List, [], ◌∷◌, ◌++◌, refl, sym, ap, subst, append_assoc, arith}
use Rattle.std.specs.Prelude.{flat_map}
use Rattle.std.specs.List.{range_with_len}
use Rattle.sched_time.specs.Times.{longest}
use Rattle.plan_read.specs.declared.plans.Call.{Call}
use Rattle.plan_read.specs.Plans.{BlockTree, PlanTree}
use Rattle.plan_compile.specs.Submissions.{Timed, ops_at, iteration_ops, plan_ops}
use Rattle.plan_compile.specs.own.Places.{ops_from, AreInTime}

-- one number more at the end
pub range_more : (a n : ℕ) → range_with_len a (suc n) ≡ range_with_len a n ++ (a + n) ∷ []
range_more a zero = let e : a + 0 ≡ a = omega arith in rw e refl
range_more a (suc n) = let e : (a + 1) + n ≡ a + suc n = omega arith in ap (λ (xs : List ℕ). a ∷ xs) (rw e at (range_more (a + 1) n))

-- a function that gives no elements gives none along a list
pub flat_map_none : {A B : Type 0} (f : A → List B) (xs : List A) → ((x : A) → f x ≡ []) → flat_map f xs ≡ []
flat_map_none f [] none = refl
flat_map_none f (x ∷ xs) none = rw (none x) (flat_map_none f xs none)

-- from the first iteration on
pub from_start : (blocks : PlanTree) → ops_from 0 blocks ≡ plan_ops blocks
from_start [] = refl
from_start (b ∷ bs) = let e : b.header.times - 0 ≡ b.header.times = omega arith in rw e refl

-- one iteration, and those behind it
pub from_iteration : (r : ℕ) (b : BlockTree) (bs : PlanTree) → r < b.header.times → ops_from r (b ∷ bs) ≡ iteration_ops b r ++ ops_from (r + 1) (b ∷ bs)
from_iteration r b bs within =
    let e : b.header.times - r ≡ suc (b.header.times - (r + 1)) = omega arith in
    rw e (append_assoc (iteration_ops b r) (flat_map (iteration_ops b) (range_with_len (r + 1) (b.header.times - (r + 1)))) (plan_ops bs))

-- no iteration is left
pub past_iterations : (r : ℕ) (b : BlockTree) (bs : PlanTree) → b.header.times ≤ r → ops_from r (b ∷ bs) ≡ ops_from 0 bs
past_iterations r b bs past =
    let e : b.header.times - r ≡ 0 = omega arith in
    rw e (sym (from_start bs))

-- a block without calls
pub past_no_calls : (r : ℕ) (b : BlockTree) (bs : PlanTree) → b.calls ≡ [] → ops_from r (b ∷ bs) ≡ ops_from 0 bs
past_no_calls r b bs none =
    let each : (k : ℕ) → iteration_ops b k ≡ [] = λ k. rw none refl in
    rw (flat_map_none (iteration_ops b) (range_with_len r (b.header.times - r)) each) (sym (from_start bs))

-- ---- moments within the limit

-- of some operations and others both are
pub in_time_front : (xs ys : List Timed) → AreInTime (xs ++ ys) → AreInTime xs
in_time_front [] ys h = tt
in_time_front (o ∷ os) ys h = (h.0, in_time_front os ys h.1)

begins : (base : ℕ) (cs : List Call) → (cs ≡ [] → ⊥) → AreInTime (ops_at base cs) → base ≤ longest
begins base [] some h = absurd (some refl)
begins base (c ∷ cs) some h = omega (arith, h.0)

-- an iteration with a call begins within the limit
pub base_in_time : (r : ℕ) (b : BlockTree) (bs : PlanTree) → r < b.header.times → (b.calls ≡ [] → ⊥) → AreInTime (ops_from r (b ∷ bs)) → b.header.at + r * b.header.every ≤ longest
base_in_time r b bs within some h =
    begins (b.header.at + r * b.header.every) b.calls some (in_time_front (iteration_ops b r) (ops_from (r + 1) (b ∷ bs)) (subst AreInTime (from_iteration r b bs within) h))

-- at an iteration of the first block
pub at_iteration : (r : ℕ) (blocks : PlanTree) (b : BlockTree) (rest : PlanTree) → blocks ≡ b ∷ rest → r < b.header.times
    → ops_at (b.header.at + r * b.header.every) b.calls ++ ops_from (r + 1) blocks ≡ ops_from r blocks
at_iteration r blocks b rest is within = rw is (sym (from_iteration r b rest within))
