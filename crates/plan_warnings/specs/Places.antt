-- The calls of a plan's text in their places, and what counts of where each stands.
-- All of it is this project's rule.
use Rattle.std.specs.Prelude.{ℕ, ◌+◌, ◌==◌, ◌&&◌, ◌||◌, Bool, true, false, nat_lt, List, [], ◌∷◌, ◌++◌, length, Option, None, Some}
use Rattle.std.specs.List.{list_any}
use Rattle.plan_read.specs.declared.plans.Call.{Call}
use Rattle.plan_read.specs.declared.plans.Op.{Op}
use Rattle.plan_read.specs.declared.plans.Op.TheVariants as ops
use Rattle.plan_read.specs.declared.plans.Target.{Target}
use Rattle.plan_read.specs.Plans.{BlockTree, PlanTree, tasks_after_calls}

-- ---- shutdowns

-- an operation shuts the executor down, orderly or at once
abbrev pub shuts_down : Op → Bool
shuts_down ops.Shutdown = true
shuts_down ops.ShutdownNow = true
shuts_down _ = false

-- some of these calls shuts it down
abbrev pub some_shuts_down : List Call → Bool
some_shuts_down calls = list_any (λ c. shuts_down c.op) calls

-- a call of some of these blocks shuts it down
abbrev pub some_block_shuts_down : PlanTree → Bool
some_block_shuts_down blocks = list_any (λ b. some_shuts_down b.calls) blocks

-- ---- places

-- a call of a plan's text, and what counts of where it stands
pub record PlaceTree : Type 0 where
  -- its block, and the call in it, numbered from 1
  pub block : ℕ
  pub call : ℕ
  -- how a cancel names it, where it is a submission
  pub target : Target
  -- a shutdown stands before it, in an earlier block or in its own
  pub is_shut : Bool
  -- its block is made more than once, and a shutdown stands there
  pub is_shut_again : Bool
  pub op : Op

-- the place of a call behind the calls `before` of its block, which is numbered from 0; `shut` tells whether an earlier block shuts
-- the executor down
abbrev pub place_of : ℕ → Bool → BlockTree → List Call → Call → PlaceTree
place_of number shut b before c = record {
  block = number + 1;
  call = length before + 1;
  target = record { block = number; sub = tasks_after_calls 0 before };
  is_shut = shut || some_shuts_down before;
  is_shut_again = nat_lt 1 b.header.times && some_shuts_down b.calls;
  op = c.op;
}

-- the places of some calls of a block, behind the calls `before`
abbrev pub places_in : ℕ → Bool → BlockTree → List Call → List Call → List PlaceTree
places_in number shut b before [] = []
places_in number shut b before (c ∷ cs) = place_of number shut b before c ∷ places_in number shut b (before ++ c ∷ []) cs

-- those of all calls of some blocks, behind the blocks `earlier`
abbrev pub places_from : PlanTree → PlanTree → List PlaceTree
places_from earlier [] = []
places_from earlier (b ∷ bs) = places_in (length earlier) (some_block_shuts_down earlier) b [] b.calls ++ places_from (earlier ++ b ∷ []) bs

-- the calls of a plan in their places, in the order of the text
abbrev pub places_of : PlanTree → List PlaceTree
places_of plan = places_from [] plan

-- ---- submissions and cancels

-- two targets are one submission
abbrev pub is_same : Target → Target → Bool
is_same s t = (s.block == t.block) && (s.sub == t.sub)

-- the target of a cancel
abbrev pub target_of : Op → Option Target
target_of (ops.Cancel target) = Some target
target_of _ = None
