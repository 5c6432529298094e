use Rattle.std.proofs.Common.{arith}
use Rattle.plan_compile.proofs.Ops.{from_start}
use Rattle.plan_compile.proofs.Told.{plan_few, plan_in_time}
use Rattle.plan_compile.proofs.submissions.Submissions.new.Goals as goal

pub before-requires : goal.before-requires
before-requires g c =
    rw (c.blocks-2.ensures.blocks, from_start c.args.plan.now) (plan_in_time c.args.plan.now c.blocks-2.ensures.ordered)

pub invariant_of-result : goal.invariant_of-result
invariant_of-result g c =
    rw (c.before-2.ensures, c.blocks-2.ensures.blocks, from_start c.args.plan.now) (omega (arith, plan_few c.args.plan.now c.blocks-2.ensures.ordered))
