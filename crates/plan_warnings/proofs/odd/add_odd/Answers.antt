use Rattle.std.proofs.Common.{◌∙◌}
use Rattle.plan_warnings.specs.Warnings.{all_kinds, odd_call}
use Rattle.plan_warnings.specs.own.Marks.{is_told_by, place_tree}
use Rattle.plan_warnings.proofs.Steps.{kept_more}
use Rattle.plan_warnings.proofs.odd.add_odd.Goals as goal

pub loop-kind-preserved : goal.loop-kind-preserved
loop-kind-preserved g c =
    let l = c.loop-kind in
    let p = place_tree c.args.place.now in
    c.in_ok-add_told.ensures ∙ kept_more (is_told_by c.args.marks.now p) (odd_call p) all_kinds l.kind-index _ c.args.odd.now.items l.odd.items c.loop-kind-test.true l.invariant
