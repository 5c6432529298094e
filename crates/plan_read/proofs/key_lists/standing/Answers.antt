use Rattle.std.proofs.Common.{◌∙◌, sym}
use Rattle.plan_read.proofs.KeyTable.{one_taken, one_left_out}
use Rattle.plan_read.proofs.key_lists.standing.Goals as goal
use Rattle.plan_read.proofs.key_lists.standing.Goals.{then-stands_in+in_ok-push, else-stands_in}

pub loop-key-preserved : goal.loop-key-preserved
loop-key-preserved g c =
    let keys = c.args.keys.now in
    let i = c.loop-key.key-index in
    elim c.if-stands_in.branch [
      | then-stands_in+in_ok-push w ↦
          one_taken c.args.version c.args.role c.loop-key.those.items _ keys i _ c.loop-key-test.true (sym c.stands_in.ensures ∙ w.if-stands_in.true) (rw w.those-is w.in_ok-push.ensures.items) ∙ c.loop-key.invariant
      | else-stands_in w ↦
          rw w.those-is (one_left_out c.args.version c.args.role c.loop-key.those.items keys i _ c.loop-key-test.true (sym c.stands_in.ensures ∙ w.if-stands_in.false) ∙ c.loop-key.invariant)
    ]
