use Rattle.std.proofs.Common.{◌≡◌, ◌&&◌, false, take}
use Rattle.std.specs.List.{list_any}
use Rattle.std.specs.Option.{option_map_or}
use Rattle.std.specs.Prelude.{is_some}
use Rattle.plan_read.specs.declared.plans.Target.{Target}
use Rattle.plan_warnings.specs.Places.{is_same, target_of}
use Rattle.plan_warnings.specs.Warnings.{is_refused_at}
use Rattle.plan_warnings.specs.own.Marks.{place_tree}
use Rattle.plan_warnings.specs.own.Sets.{has_target}
use Rattle.plan_warnings.proofs.marks.Marks.of.Given as goal

abbrev pub invariant-loop-place : goal.invariant-loop-place
invariant-loop-place g l = record {
  refused : (t : Target) → has_target l.refused t ≡ list_any (λ p. is_refused_at (place_tree p) && is_same p.target t) (take l.place-index l.places);
  cancelled : (t : Target) → has_target l.cancelled t ≡ list_any (λ p. option_map_or (λ u. is_same u t) (target_of p.op.now) false) (take l.place-index l.places);
  has_cancel : l.has_cancel ≡ list_any (λ p. is_some (target_of p.op.now)) (take l.place-index l.places);
}
