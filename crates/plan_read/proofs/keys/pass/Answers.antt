use Rattle.std.proofs.Common.{◌∙◌, sym, arith}
use Rattle.toml.specs.View.{table_view}
use Rattle.plan_read.proofs.Passing.{start, one_there, one_left, one_fails, all_passed}
use Rattle.plan_read.proofs.keys.pass.Goals as goal
use Rattle.plan_read.proofs.keys.pass.Goals.{then-has, else-has}

pub loop-key-init : goal.loop-key-init
loop-key-init c = start (table_view c.args.row.now.table.now) c.args.keys.now

pub returns-then-not-holds : goal.returns-then-not-holds
returns-then-not-holds c = one_fails (table_view c.args.row.now.table.now) c.loop-key.there c.args.keys.now c.loop-key.key-index _ c.loop-key-test.true c.loop-key.invariant (sym c.holds.ensures ∙ c.if-not-holds.true)

pub overflow_add-there : goal.overflow_add-there
overflow_add-there c = omega (arith, c.loop-key.invariant.few, c.loop-key-test.true)

pub loop-key-preserved : goal.loop-key-preserved
loop-key-preserved c =
    let ms = table_view c.args.row.now.table.now in
    let keys = c.args.keys.now in
    let i = c.loop-key.key-index in
    let held = sym c.holds.ensures ∙ c.if-not-holds.false in
    elim c.if-has.branch [
      | then-has w ↦ rw w.there-is (one_there ms c.loop-key.there keys i _ c.loop-key-test.true c.loop-key.invariant held (sym c.has.ensures ∙ w.if-has.true))
      | else-has w ↦ rw w.there-is (one_left ms c.loop-key.there keys i _ c.loop-key-test.true c.loop-key.invariant held (sym c.has.ensures ∙ w.if-has.false))
    ]

pub returns : goal.returns
returns c =
    rw c.len.ensures.len (all_passed c.loop-key.there c.args.keys.now c.loop-key.key-index c.args.row.now.table.now.entries (omega (arith, c.loop-key-test.false)) c.loop-key.invariant c.requires c.len.ensures.ordered)
