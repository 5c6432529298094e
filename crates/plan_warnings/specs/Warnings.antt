-- Which calls of a plan are odd, and why: a table over the places of its calls.
-- That such a call is refused, or has no effect, is told by the laws of `Refusals`. All else is this project's rule.
use Rattle.std.specs.Prelude.{◌&&◌, ◌||◌, not, Bool, true, false, nat_lt, List, [], ◌∷◌, map, filter, flat_map, Option, None, Some, is_some}
use Rattle.std.specs.List.{list_any}
use Rattle.std.specs.Option.{option_map_or}
use Rattle.plan_read.specs.declared.plans.Op.{Op}
use Rattle.plan_read.specs.declared.plans.Op.TheVariants as ops
use Rattle.plan_read.specs.declared.plans.Target.{Target}
use Rattle.plan_read.specs.Plans.{PlanTree, is_submission}
use Rattle.plan_warnings.specs.declared.kinds.OddCall.{OddCall}
use Rattle.plan_warnings.specs.declared.kinds.WarningKind.{WarningKind}
use Rattle.plan_warnings.specs.declared.kinds.WarningKind.TheVariants as kinds
use Rattle.plan_warnings.specs.Places.{PlaceTree, is_same, target_of, places_of}

-- ---- operations

-- a submission has no legal period, or no legal fixed delay: the text has one that is zero or negative
-- (ScheduledExecutorService.scheduleAtFixedRate and scheduleWithFixedDelay of Java SE 17: "IllegalArgumentException - if period
-- less than or equal to zero")
abbrev pub is_illegal : Op → Bool
is_illegal (ops.Rate name first None) = true
is_illegal (ops.Fixed name first None) = true
is_illegal _ = false

-- a submission that is not illegal
abbrev pub is_legal : Op → Bool
is_legal op = is_submission op && not (is_illegal op)

-- a legal period, or fixed delay, is below 1,000 nanoseconds
abbrev pub is_short : Op → Bool
is_short (ops.Rate name first (Some period)) = nat_lt period 1000
is_short (ops.Fixed name first (Some delay)) = nat_lt delay 1000
is_short _ = false

-- ---- submissions and cancels among the calls of a plan

-- a submission is refused each time that it is made: it is illegal, or a shutdown stands before it
abbrev pub is_refused_at : PlaceTree → Bool
is_refused_at p = is_submission p.op && (is_illegal p.op || p.is_shut)

-- the submission `target` is one that is refused each time
abbrev pub is_refused : List PlaceTree → Target → Bool
is_refused places target = list_any (λ p. is_refused_at p && is_same p.target target) places

-- some cancel names the submission `target`
abbrev pub is_cancelled : List PlaceTree → Target → Bool
is_cancelled places target = list_any (λ p. option_map_or (λ t. is_same t target) (target_of p.op) false) places

-- some call is a cancel
abbrev pub has_cancel : List PlaceTree → Bool
has_cancel places = list_any (λ p. is_some (target_of p.op)) places

-- ---- the table

-- whether this is told of the call at a place, among all places of the plan
abbrev pub is_told : List PlaceTree → PlaceTree → WarningKind → Bool
is_told places p kinds.Illegal = is_illegal p.op
is_told places p kinds.Rejected = is_legal p.op && p.is_shut
is_told places p kinds.RejectedAgain = is_legal p.op && (not p.is_shut && p.is_shut_again)
is_told places p kinds.NothingToCancel = option_map_or (is_refused places) (target_of p.op) false
is_told places p kinds.ShortPeriod = is_short p.op
is_told places p kinds.UnusedName = is_submission p.op && (has_cancel places && not (is_cancelled places p.target))

-- all kinds, in the order in which those of one call are told
abbrev pub all_kinds : List WarningKind
all_kinds = kinds.Illegal ∷ kinds.Rejected ∷ kinds.RejectedAgain ∷ kinds.NothingToCancel ∷ kinds.ShortPeriod ∷ kinds.UnusedName ∷ []

-- the call of a place, with what is told of it
abbrev pub odd_call : PlaceTree → WarningKind → OddCall
odd_call p kind = record { block = p.block; call = p.call; kind = kind }

-- what is told of one place
abbrev pub odd_at : List PlaceTree → PlaceTree → List OddCall
odd_at places p = map (odd_call p) (filter (is_told places p) all_kinds)

-- what is told of all these places, in their order
abbrev pub odd_among : List PlaceTree → List OddCall
odd_among places = flat_map (odd_at places) places

-- what is told of a plan, whether units stand in its text or not
abbrev pub odd_calls : PlanTree → List OddCall
odd_calls plan = odd_among (places_of plan)
