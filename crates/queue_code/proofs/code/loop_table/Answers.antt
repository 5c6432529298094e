use Rattle.std.proofs.Common.{◌≡◌, ◌+◌, Some, arith, ◌∙◌}
use Rattle.std.proofs.lemmas.List.{length_push}
use Rattle.queue_code.specs.Cursors.{Enclosing, loop_around}
use Rattle.queue_code.proofs.Tables.{entries_more, place_more, place_here}
use Rattle.queue_code.proofs.code.loop_table.Goals as goal
use Rattle.queue_code.proofs.code.loop_table.Goals.{in-Loop, in_default}

pub loop-index-preserved : goal.loop-index-preserved
loop-index-preserved g c =
    let low = c.loop-index-test.true in
    let is = c.index-instrs-index.is in
    let here : (loop : Enclosing) → loop_around c.args.instrs.now (c.loop-index.index + 1) ≡ Some loop → c.match-instr.place ≡ loop.place = λ loop found.
    elim c.match-instr.branch [
      | in-Loop w ↦ w.place-is ∙ place_here c.args.instrs.now c.loop-index.index _ _ c.index-instrs-index.result low is w.in-Loop.is loop found
      | in_default w ↦ w.place-is ∙ place_more c.args.instrs.now c.loop-index.place c.loop-index.index c.index-instrs-index.result low is w.in_default.not-Loop c.loop-index.invariant.here loop found
    ] in
    rw c.in_ok-push.ensures.items (record {
      count = omega (arith, length_push c.loop-index.table.items c.loop-index.place, c.loop-index.invariant.count);
      entries = entries_more c.args.instrs.now c.loop-index.table.items c.loop-index.place c.loop-index.index c.loop-index.invariant.count c.loop-index.invariant.entries c.loop-index.invariant.here;
      here = here;
    })
