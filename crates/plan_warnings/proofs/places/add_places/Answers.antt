use Rattle.std.proofs.Common.{◌≡◌, ◌<◌, Bool, List, length, get_or, ap, subst}
use Rattle.plan_read.specs.declared.plans.Call.{Call}
use Rattle.plan_warnings.specs.Places.{PlaceTree}
use Rattle.plan_warnings.proofs.Walks.{all_put, counted_place, one_put}
use Rattle.plan_warnings.proofs.places.add_places.Goals as goal

pub loop-call-preserved : goal.loop-call-preserved
loop-call-preserved g c =
    let b = c.args.block.now in
    let l = c.loop-call in
    let call = c.index-calls-call.result in
    let within = subst (λ (cs : List Call). l.call < length cs) c.calls-calls.ensures c.loop-call-test.true in
    let is = subst (λ (cs : List Call). call ≡ get_or cs l.call call) c.calls-calls.ensures c.index-calls-call.is in
    let place : Bool → PlaceTree = λ t. record (counted_place c.args.number b call l.call l.sub l.is_shut) { is_shut_again = t } in
    rw (c.in_ok-push.ensures.items, c.submissions_after-sub.ensures, c.shuts_down-is_shut.ensures)
    (one_put c.args.number c.args.was_shut b c.args.places.now.items l.places.items l.call l.sub l.is_shut call _ within is l.invariant (ap place c.is_shut_again-is_shut_again.ensures))
