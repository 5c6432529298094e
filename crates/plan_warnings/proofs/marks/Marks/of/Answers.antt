use Rattle.std.proofs.Common.{◌≡◌, ◌∙◌, ◌&&◌, ◌||◌, false, ap, sym, take, length}
use Rattle.std.specs.List.{list_any}
use Rattle.std.specs.Option.{option_map_or}
use Rattle.std.specs.Prelude.{is_some}
use Rattle.plan_read.specs.declared.plans.Target.{Target}
use Rattle.plan_warnings.specs.declared.places.Place.{Place}
use Rattle.plan_warnings.specs.Places.{is_same, target_of}
use Rattle.plan_warnings.specs.Warnings.{is_refused_at}
use Rattle.plan_warnings.specs.own.Marks.{place_tree}
use Rattle.plan_warnings.proofs.Steps.{any_more, any_of_all}
use Rattle.plan_warnings.proofs.marks.Marks.of.Goals as goal

pub loop-place-preserved : goal.loop-place-preserved
loop-place-preserved g c =
    let l = c.loop-place in
    let places = c.args.places.now in
    let within = c.loop-place-test.true in
    let place = c.place-item.result in
    record {
      refused = λ t. c.in_ok-add_refused.ensures t ∙ ap (λ b. b || (is_refused_at (place_tree place) && is_same place.target t)) (l.invariant.refused t)
          ∙ sym (any_more (λ (p : Place). is_refused_at (place_tree p) && is_same p.target t) places l.place-index place within c.place-item.is);
      cancelled = λ t. c.in_ok-add_cancelled.ensures t ∙ ap (λ b. b || option_map_or (λ (u : Target). is_same u t) (target_of place.op.now) false) (l.invariant.cancelled t)
          ∙ sym (any_more (λ (p : Place). option_map_or (λ (u : Target). is_same u t) (target_of p.op.now) false) places l.place-index place within c.place-item.is);
      has_cancel = ap (λ b. b || c.is_some-has_cancel.result) l.invariant.has_cancel
          ∙ (ap (λ b. list_any (λ (p : Place). is_some (target_of p.op.now)) (take l.place-index places) || b) (c.is_some-has_cancel.ensures ∙ ap is_some c.target_of.ensures)
          ∙ sym (any_more (λ (p : Place). is_some (target_of p.op.now)) places l.place-index place within c.place-item.is));
    }

pub returns : goal.returns
returns g c =
    let l = c.loop-place in
    let places = c.args.places.now in
    record {
      refused = λ t. l.invariant.refused t ∙ any_of_all _ place_tree places l.place-index c.loop-place-test.false;
      cancelled = λ t. l.invariant.cancelled t ∙ any_of_all _ place_tree places l.place-index c.loop-place-test.false;
      has_cancel = l.invariant.has_cancel ∙ any_of_all _ place_tree places l.place-index c.loop-place-test.false;
    }
