-- The table by marks is that by places.
use Rattle.std.proofs.Common.{◌≡◌, ◌&&◌, Bool, false, not, List, Option, Some, None, refl, ap, ◌∙◌}
use Rattle.std.specs.Option.{option_map_or}
use Rattle.plan_read.specs.declared.plans.Target.{Target}
use Rattle.plan_read.specs.Plans.{is_submission}
use Rattle.plan_warnings.specs.declared.kinds.WarningKind.{WarningKind}
use Rattle.plan_warnings.specs.declared.kinds.WarningKind.TheVariants as kinds
use Rattle.plan_warnings.specs.declared.marks.Marks.{Marks}
use Rattle.plan_warnings.specs.Places.{PlaceTree, target_of}
use Rattle.plan_warnings.specs.Warnings.{all_kinds, has_cancel, is_cancelled, is_refused, is_told, odd_at, odd_call}
use Rattle.plan_warnings.specs.own.Marks.{AreMarksOf, is_told_by}
use Rattle.plan_warnings.specs.own.Sets.{has_target}

-- two tests that tell the same do so of a value that may be missing
same_or : (p q : Target → Bool) → ((t : Target) → p t ≡ q t) → (o : Option Target) → option_map_or p o false ≡ option_map_or q o false
same_or p q same None = refl
same_or p q same (Some t) = same t

-- what is told by the marks of a plan is what is told by its places
pub told_alike : {A : Type 0} (places : List PlaceTree) (marks : Marks A) → AreMarksOf places marks → (p : PlaceTree) (kind : WarningKind) → is_told_by marks p kind ≡ is_told places p kind
told_alike places marks are p kinds.Illegal = refl
told_alike places marks are p kinds.Rejected = refl
told_alike places marks are p kinds.RejectedAgain = refl
told_alike places marks are p kinds.NothingToCancel = same_or (has_target marks.refused) (is_refused places) are.refused (target_of p.op)
told_alike places marks are p kinds.ShortPeriod = refl
told_alike places marks are p kinds.UnusedName =
    ap (λ b. is_submission p.op && (b && not (has_target marks.cancelled p.target))) are.has_cancel
    ∙ ap (λ b. is_submission p.op && (has_cancel places && not b)) (are.cancelled p.target)
