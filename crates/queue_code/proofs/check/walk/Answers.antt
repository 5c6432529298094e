use Rattle.std.proofs.Common.{◌≡◌, ◌+◌, List, drop, ap, sym, ◌∙◌, None, refl, arith}
use Rattle.std.proofs.lemmas.List.{take_rest}
use Rattle.queue_code.specs.declared.instr.Instr.{Instr}
use Rattle.queue_code.specs.Checks.{first_failed}
use Rattle.queue_code.specs.own.Walks.{walk_checks}
use Rattle.queue_code.proofs.Faults.{fault_is}
use Rattle.queue_code.proofs.Sizes.{bounded_more, fault_more, walked_more, timed_more}
use Rattle.queue_code.proofs.check.walk.Goals as goal

pub loop-index-init : goal.loop-index-init
loop-index-init c =
    rw c.new-progress.ensures (record { fault = sym (fault_is c.args.instrs.now); ends = refl; timed = λ timed. timed; bounded = record { calls = omega arith; last = omega arith; open_loop = omega arith } })

pub loop-index-preserved : goal.loop-index-preserved
loop-index-preserved c =
    let instrs = c.args.instrs.now in
    let n = c.loop-index.index in
    let p = c.loop-index.progress in
    let i = c.index-instrs-index.result in
    let none : first_failed (walk_checks p i (drop (n + 1) instrs)) ≡ None =
    ap (λ (rest : List Instr). first_failed (walk_checks p i rest)) (sym (take_rest instrs (n + 1))) ∙ sym c.fault_at.ensures ∙ c.in_default.is in
    let low = c.loop-index-test.true in
    let is = c.index-instrs-index.is in
    let other = c.in_default-instr.not-Halt in
    rw c.after-progress.ensures (record {
      fault = fault_more p instrs n i _ low is other none c.loop-index.invariant.fault;
      ends = walked_more p instrs n i _ low is other c.loop-index.invariant.ends;
      timed = timed_more instrs n i low is c.see_timing.ensures c.loop-index.invariant.timed;
      bounded = bounded_more p n i (drop (n + 1) instrs) c.loop-index.invariant.bounded none;
    })
