use Rattle.std.proofs.Common.{◌≡◌, ◌∙◌, ◌<◌, ◌≤◌, ◌||◌, length, get_or, ap, subst}
use Rattle.plan_read.specs.Plans.{BlockTree, PlanTree}
use Rattle.plan_warnings.specs.Places.{some_shuts_down}
use Rattle.plan_warnings.proofs.Walks.{BlocksLeft, block_put, blocks_put}
use Rattle.plan_warnings.proofs.places.places_of.Goals as goal

pub loop-number-preserved : goal.loop-number-preserved
loop-number-preserved g c =
    let plan = c.args.plan.now in
    let l = c.loop-number in
    let b = c.index-blocks-number.result in
    let same = c.blocks-blocks.ensures.blocks in
    let within = subst (λ (bs : PlanTree). l.number < length bs) same c.loop-number-test.true in
    let is = subst (λ (bs : PlanTree). b ≡ get_or bs l.number b) same c.index-blocks-number.is in
    rw (c.some_shuts_down-is_shut.ensures, c.calls.ensures) (block_put plan l.places.items c.add_places.new.places.items l.number l.is_shut b within is l.invariant c.in_ok-add_places.ensures)

pub returns : goal.returns
returns g c =
    let l = c.loop-number in
    blocks_put c.args.plan.now l.places.items l.number l.is_shut (subst (λ (bs : PlanTree). length bs ≤ l.number) c.blocks-blocks.ensures.blocks c.loop-number-test.false) l.invariant
