-- The places, the sets of submissions and the table as the code has them.
use Rattle.std.specs.Prelude.{◌≡◌, ◌&&◌, not, Bool, false, List}
use Rattle.std.specs.Option.{option_map_or}
use Rattle.plan_read.specs.declared.plans.Target.{Target}
use Rattle.plan_read.specs.Plans.{is_submission}
use Rattle.plan_warnings.specs.declared.kinds.WarningKind.{WarningKind}
use Rattle.plan_warnings.specs.declared.kinds.WarningKind.TheVariants as kinds
use Rattle.plan_warnings.specs.declared.marks.Marks.{Marks}
use Rattle.plan_warnings.specs.declared.places.Place.{Place}
use Rattle.plan_warnings.specs.Places.{PlaceTree, target_of}
use Rattle.plan_warnings.specs.Warnings.{has_cancel, is_cancelled, is_illegal, is_legal, is_refused, is_short}
use Rattle.plan_warnings.specs.own.Sets.{has_target}

-- a place as contracts see it
abbrev pub place_tree : Place → PlaceTree
place_tree p = record { block = p.block; call = p.call; target = p.target; is_shut = p.is_shut; is_shut_again = p.is_shut_again; op = p.op.now }

-- these are the marks of a plan with these places
pub record AreMarksOf {A : Type 0} (places : List PlaceTree) (marks : Marks A) : Type 0 where
  pub refused : (t : Target) → has_target marks.refused t ≡ is_refused places t
  pub cancelled : (t : Target) → has_target marks.cancelled t ≡ is_cancelled places t
  pub has_cancel : marks.has_cancel ≡ has_cancel places

-- the table, by marks
abbrev pub is_told_by : {A : Type 0} → Marks A → PlaceTree → WarningKind → Bool
is_told_by marks p kinds.Illegal = is_illegal p.op
is_told_by marks p kinds.Rejected = is_legal p.op && p.is_shut
is_told_by marks p kinds.RejectedAgain = is_legal p.op && (not p.is_shut && p.is_shut_again)
is_told_by marks p kinds.NothingToCancel = option_map_or (has_target marks.refused) (target_of p.op) false
is_told_by marks p kinds.ShortPeriod = is_short p.op
is_told_by marks p kinds.UnusedName = is_submission p.op && (marks.has_cancel && not (has_target marks.cancelled p.target))
