-- What contracts see of a plan, its limits, what stands before a place of it (submissions with their names, moments, numbers of
-- calls), and what holds of each plan.
-- All of it is this project's rule.
use Rattle.std.specs.Prelude.{◌≡◌, ◌⊎◌, ℕ, ◌+◌, ◌-◌, ◌*◌, ◌≤◌, Bool, if◌then◌else◌, nat_lt, List, [], ◌∷◌, ◌++◌, length, Option, Some, None, is_some, bytes_eq, slice_get}
use Rattle.std.specs.Map.{lookup}
use Rattle.sched_time.specs.Times.{longest}
use Rattle.plan_read.specs.declared.plans.Call.{Call}
use Rattle.plan_read.specs.declared.plans.Header.{Header}
use Rattle.plan_read.specs.declared.plans.Op.{Op}
use Rattle.plan_read.specs.declared.plans.Op.TheVariants as ops
use Rattle.plan_read.specs.declared.plans.Target.{Target}
use Rattle.plan_read.specs.declared.sites.Site.{Site}

-- a block: when its calls are made, and its calls in the order of the text
pub record BlockTree : Type 0 where
  pub header : Header
  pub calls : List Call

-- a plan: its blocks in the order of the text
abbrev pub PlanTree : Type 0
PlanTree = List BlockTree

-- ---- limits

-- the greatest number of blocks of a plan
abbrev pub most_blocks : ℕ
most_blocks = 256

-- the greatest number of calls in the text of a block
abbrev pub most_block_calls : ℕ
most_block_calls = 256

-- the greatest number of calls that a plan makes, and of the iterations of a block
abbrev pub most_calls : ℕ
most_calls = 65536

-- ---- submissions and their numbers

-- the name of a submission
abbrev pub name_of : Op → Option (List ℕ)
name_of (ops.Schedule name delay) = Some name
name_of (ops.Execute name) = Some name
name_of (ops.Rate name first period) = Some name
name_of (ops.Fixed name first delay) = Some name
name_of _ = None

-- an operation is a submission, also where it is an illegal one
abbrev pub is_submission : Op → Bool
is_submission op = is_some (name_of op)

-- how many submissions there are up to and with an operation
abbrev pub tasks_after : ℕ → Op → ℕ
tasks_after task op = if is_submission op then task + 1 else task

-- how many there are up to and with some calls
abbrev pub tasks_after_calls : ℕ → List Call → ℕ
tasks_after_calls task [] = task
tasks_after_calls task (c ∷ cs) = tasks_after_calls (tasks_after task c.op) cs

-- ---- the submissions before a place, each with its name and where it stands

-- the submission `sub` of the block `block` of this header
abbrev pub site : ℕ → Header → ℕ → Site
site block h sub = record { target = record { block = block; sub = sub }; repeated = nat_lt 1 h.times }

-- a submission with its name, and nothing where there is no name
abbrev pub named : Site → Option (List ℕ) → List (List ℕ × Site)
named s None = []
named s (Some name) = (name, s) ∷ []

-- those of some calls of a block, before which `sub` submissions of the block stand
abbrev pub submissions_of : ℕ → Header → ℕ → List Call → List (List ℕ × Site)
submissions_of block h sub [] = []
submissions_of block h sub (c ∷ cs) = named (site block h sub) (name_of c.op) ++ submissions_of block h (tasks_after sub c.op) cs

-- those of the blocks from `block` on
abbrev pub submissions_from : ℕ → PlanTree → List (List ℕ × Site)
submissions_from block [] = []
submissions_from block (b ∷ bs) = submissions_of block b.header 0 b.calls ++ submissions_from (block + 1) bs

-- those that stand before a call: in the blocks before its own, and in the calls before it
abbrev pub submissions_before : PlanTree → Header → List Call → List (List ℕ × Site)
submissions_before earlier h before = submissions_from 0 earlier ++ submissions_of (length earlier) h 0 before

-- the one of this name among some
abbrev pub find : List ℕ → List (List ℕ × Site) → Option Site
find name subs = lookup (λ n. bytes_eq name n) subs

-- ---- moments and numbers of calls

-- the moment of the call with offset `o` in the last iteration
abbrev pub moment_in_last : Header → ℕ → ℕ
moment_in_last h o = h.at + (h.times - 1) * h.every + o

-- the offset of the last of some calls, and one that is given where there is none
abbrev pub last_offset_from : ℕ → List Call → ℕ
last_offset_from offset [] = offset
last_offset_from offset (c ∷ cs) = last_offset_from c.at cs

-- the offset of the last call, 0 where there is none
abbrev pub last_offset : List Call → ℕ
last_offset calls = last_offset_from 0 calls

-- the moment of the last call of a block, and one that is given where it has none
abbrev pub end_of_block : ℕ → Header → List Call → ℕ
end_of_block m h [] = m
end_of_block m h (c ∷ cs) = moment_in_last h (last_offset_from c.at cs)

-- the moment of the last call of some blocks, and one that is given where they have none
abbrev pub end_from : ℕ → PlanTree → ℕ
end_from m [] = m
end_from m (b ∷ bs) = end_from (end_of_block m b.header b.calls) bs

-- the moment of the last call of some blocks, 0 where there is none
abbrev pub end_of : PlanTree → ℕ
end_of blocks = end_from 0 blocks

-- how many calls some blocks make after `n` others, repetitions counted
abbrev pub made_from : ℕ → PlanTree → ℕ
made_from n [] = n
made_from n (b ∷ bs) = made_from (n + b.header.times * length b.calls) bs

-- how many calls some blocks make, repetitions counted
abbrev pub made_by : PlanTree → ℕ
made_by blocks = made_from 0 blocks

-- ---- what holds of each plan

-- a period or a fixed delay is 1 to 2^62 nanoseconds; one that is zero or negative is none
abbrev pub IsPeriodInRange : Option ℕ → Type 0
IsPeriodInRange None = Unit {0}
IsPeriodInRange (Some nanos) = (1 ≤ nanos) × (nanos ≤ longest)

-- the operation asks for no span above 2^62 nanoseconds, and for no period or fixed delay of 0
abbrev pub IsWithinLimits : Op → Type 0
IsWithinLimits (ops.Schedule name delay) = delay ≤ longest
IsWithinLimits (ops.Rate name first period) = (first ≤ longest) × IsPeriodInRange period
IsWithinLimits (ops.Fixed name first delay) = (first ≤ longest) × IsPeriodInRange delay
IsWithinLimits _ = Unit {0}

-- some names behind one, if there is one
abbrev pub behind_name : Option (List ℕ) → List (List ℕ) → List (List ℕ)
behind_name None names = names
behind_name (Some name) names = name ∷ names

-- the names of the submissions among some calls, in their order
abbrev pub names_of : List Call → List (List ℕ)
names_of [] = []
names_of (c ∷ cs) = behind_name (name_of c.op) (names_of cs)

-- the submission `target` has this name, and stands before a call: among the calls before it in its block, so that it is of the
-- same iteration, or in an earlier block that is made once
abbrev pub StandsBefore : PlanTree → List Call → List ℕ → Target → Type 0
StandsBefore earlier before name target =
    ((target.block ≡ length earlier) × (slice_get (names_of before) target.sub ≡ Some name))
    ⊎ ((b : BlockTree) × (slice_get earlier target.block ≡ Some b) × (b.header.times ≤ 1) × (slice_get (names_of b.calls) target.sub ≡ Some name))

-- the target of a cancel stands before it
abbrev pub IsAimed : PlanTree → List Call → Op → Type 0
IsAimed earlier before (ops.Cancel target) = (name : List ℕ) × StandsBefore earlier before name target
IsAimed earlier before _ = Unit {0}

-- a call after those before it: offsets do not fall, none is after the next iteration, and the last moment is at most 2^62
pub record IsCallAfter (earlier : PlanTree) (h : Header) (before : List Call) (c : Call) : Type 0 where
  pub order : last_offset before ≤ c.at
  pub within : (h.times ≤ 1) ⊎ (c.at ≤ h.every)
  pub last : moment_in_last h c.at ≤ longest
  pub limits : IsWithinLimits c.op
  pub aimed : IsAimed earlier before c.op

-- all calls of a block after those before them
abbrev pub AreCallsAfter : PlanTree → Header → List Call → List Call → Type 0
AreCallsAfter earlier h before [] = Unit {0}
AreCallsAfter earlier h before (c ∷ cs) = IsCallAfter earlier h before c × AreCallsAfter earlier h (before ++ c ∷ []) cs

-- a block after those before it: it begins where they have ended, and they make at most 65,536 calls together
pub record IsBlockAfter (earlier : PlanTree) (b : BlockTree) : Type 0 where
  pub order : end_of earlier ≤ b.header.at
  pub at : b.header.at ≤ longest
  pub every : b.header.every ≤ longest
  pub least : 1 ≤ b.header.times
  pub most : b.header.times ≤ most_calls
  pub few : length b.calls ≤ most_block_calls
  pub total : made_by earlier + b.header.times * length b.calls ≤ most_calls
  pub calls : AreCallsAfter earlier b.header [] b.calls

-- all blocks after those before them
abbrev pub AreBlocksAfter : PlanTree → PlanTree → Type 0
AreBlocksAfter earlier [] = Unit {0}
AreBlocksAfter earlier (b ∷ bs) = IsBlockAfter earlier b × AreBlocksAfter (earlier ++ b ∷ []) bs

-- the blocks of a plan: at most 256, each after those before it
abbrev pub IsOrdered : PlanTree → Type 0
IsOrdered blocks = (length blocks ≤ most_blocks) × AreBlocksAfter [] blocks

-- no two submissions have one name
abbrev pub AreDistinct : List (List ℕ × Site) → Type 0
AreDistinct [] = Unit {0}
AreDistinct (s ∷ subs) = (find s.0 subs ≡ None) × AreDistinct subs
