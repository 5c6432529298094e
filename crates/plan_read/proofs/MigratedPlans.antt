-- What stands before a place of a plan does not change with the units that its blocks keep.
use Rattle.std.proofs.Common.{◌≡◌, ℕ, ◌+◌, ◌*◌, List, [], ◌∷◌, ◌++◌, length, refl, ap, ◌∙◌}
use Rattle.std.proofs.lemmas.List.{length-map}
use Rattle.sched_time.specs.declared.unit.Unit.TheVariants.{Ns}
use Rattle.plan_read.specs.declared.plans.Call.{Call}
use Rattle.plan_read.specs.declared.plans.Header.{Header}
use Rattle.plan_read.specs.declared.sites.Site.{Site}
use Rattle.plan_read.specs.Plans.{PlanTree, name_of, tasks_after, site, named, submissions_of, submissions_from, submissions_before, end_of_block, end_from, end_of, made_from, made_by}
use Rattle.plan_read.specs.Migrating.{block_in_nanoseconds, in_nanoseconds}

-- a header whose times are in nanoseconds
abbrev pub header_in_nanoseconds : Header → Header
header_in_nanoseconds h = record h { unit = Ns }

-- there are as many blocks
pub length_same : (blocks : PlanTree) → length (in_nanoseconds blocks) ≡ length blocks
length_same blocks = length-map blocks block_in_nanoseconds

submissions_of_same : (block : ℕ) (h : Header) (sub : ℕ) (cs : List Call) → submissions_of block (header_in_nanoseconds h) sub cs ≡ submissions_of block h sub cs
submissions_of_same block h sub [] = refl
submissions_of_same block h sub (c ∷ cs) = ap (λ (subs : List (List ℕ × Site)). named (site block h sub) (name_of c.op) ++ subs) (submissions_of_same block h (tasks_after sub c.op) cs)

submissions_from_same : (block : ℕ) (bs : PlanTree) → submissions_from block (in_nanoseconds bs) ≡ submissions_from block bs
submissions_from_same block [] = refl
submissions_from_same block (b ∷ bs) =
    let here = submissions_of_same block b.header 0 b.calls in
    let rest = submissions_from_same (block + 1) bs in
    ap (λ (subs : List (List ℕ × Site)). subs ++ submissions_from (block + 1) (in_nanoseconds bs)) here ∙ ap (λ (subs : List (List ℕ × Site)). submissions_of block b.header 0 b.calls ++ subs) rest

-- the same submissions stand before a call
pub before_same : (earlier : PlanTree) (h : Header) (before : List Call) → submissions_before (in_nanoseconds earlier) (header_in_nanoseconds h) before ≡ submissions_before earlier h before
before_same earlier h before =
    ap (λ (subs : List (List ℕ × Site)). subs ++ submissions_of (length (in_nanoseconds earlier)) (header_in_nanoseconds h) 0 before) (submissions_from_same 0 earlier)
    ∙ ap (λ (n : ℕ). submissions_from 0 earlier ++ submissions_of n (header_in_nanoseconds h) 0 before) (length_same earlier)
    ∙ ap (λ (subs : List (List ℕ × Site)). submissions_from 0 earlier ++ subs) (submissions_of_same (length earlier) h 0 before)

end_of_block_same : (m : ℕ) (h : Header) (cs : List Call) → end_of_block m (header_in_nanoseconds h) cs ≡ end_of_block m h cs
end_of_block_same m h [] = refl
end_of_block_same m h (c ∷ cs) = refl

end_from_same : (m : ℕ) (bs : PlanTree) → end_from m (in_nanoseconds bs) ≡ end_from m bs
end_from_same m [] = refl
end_from_same m (b ∷ bs) = ap (λ (n : ℕ). end_from n (in_nanoseconds bs)) (end_of_block_same m b.header b.calls) ∙ end_from_same (end_of_block m b.header b.calls) bs

-- the blocks end at the same moment
pub end_same : (bs : PlanTree) → end_of (in_nanoseconds bs) ≡ end_of bs
end_same bs = end_from_same 0 bs

made_from_same : (n : ℕ) (bs : PlanTree) → made_from n (in_nanoseconds bs) ≡ made_from n bs
made_from_same n [] = refl
made_from_same n (b ∷ bs) = made_from_same (n + b.header.times * length b.calls) bs

-- the blocks make as many calls
pub made_same : (bs : PlanTree) → made_by (in_nanoseconds bs) ≡ made_by bs
made_same bs = made_from_same 0 bs
