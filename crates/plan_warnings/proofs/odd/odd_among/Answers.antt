use Rattle.std.proofs.Common.{◌≡◌, ◌∙◌, ◌++◌, List, map, take, ap, sym}
use Rattle.std.proofs.lemmas.List.{take_all}
use Rattle.std.specs.List.{filter, flat_map}
use Rattle.plan_warnings.specs.declared.kinds.OddCall.{OddCall}
use Rattle.plan_warnings.specs.declared.kinds.WarningKind.{WarningKind}
use Rattle.plan_warnings.specs.declared.places.Place.{Place}
use Rattle.plan_warnings.specs.Warnings.{all_kinds, is_told, odd_at, odd_call}
use Rattle.plan_warnings.specs.own.Marks.{is_told_by, place_tree}
use Rattle.plan_warnings.proofs.Steps.{filter_same, flat_map-map, flat_more}
use Rattle.plan_warnings.proofs.Tables.{told_alike}
use Rattle.plan_warnings.proofs.odd.odd_among.Goals as goal

pub loop-place-preserved : goal.loop-place-preserved
loop-place-preserved g c =
    let l = c.loop-place in
    let all = map place_tree c.args.places.now in
    let place = c.place-item.result in
    let p = place_tree place in
    let marks = c.in_ok-marks.marks in
    let at = λ (q : Place). odd_at all (place_tree q) in
    c.in_ok-add_odd.ensures
    ∙ (ap (λ (odd : List OddCall). odd ++ map (odd_call p) (filter (is_told_by marks p) all_kinds)) l.invariant
    ∙ (ap (λ (ks : List WarningKind). flat_map at (take l.place-index c.args.places.now) ++ map (odd_call p) ks) (filter_same (is_told_by marks p) (is_told all p) (told_alike all marks c.in_ok-marks.ensures p) all_kinds)
    ∙ sym (flat_more at c.args.places.now l.place-index place c.loop-place-test.true c.place-item.is)))

pub returns : goal.returns
returns g c =
    let l = c.loop-place in
    let places = c.args.places.now in
    let at = odd_at (map place_tree places) in
    l.invariant ∙ (ap (flat_map (λ (q : Place). at (place_tree q))) (take_all l.place-index places c.loop-place-test.false) ∙ sym (flat_map-map at place_tree places))
