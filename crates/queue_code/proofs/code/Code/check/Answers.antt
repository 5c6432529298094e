use Rattle.std.proofs.Common.{List, subst, arith}
use Rattle.queue_code.specs.declared.instr.Instr.{Instr}
use Rattle.queue_code.specs.own.Cursors.{IsLoopTable}
use Rattle.queue_code.proofs.Counting.{Known, known}
use Rattle.queue_code.proofs.code.Code.check.Goals as goal

pub overflow_cast-result : goal.overflow_cast-result
overflow_cast-result g c =
    let fine = c.in_ok-progress.ensures.none in
    omega (arith, (known c.deref.result.now c.in_ok-progress.progress fine.0 fine.1 fine.2).few_calls)

pub overflow_cast-result-2 : goal.overflow_cast-result-2
overflow_cast-result-2 g c =
    let fine = c.in_ok-progress.ensures.none in
    omega (arith, (known c.deref.result.now c.in_ok-progress.progress fine.0 fine.1 fine.2).few_tasks)

pub invariant_of-result : goal.invariant_of-result
invariant_of-result g c =
    let fine = c.in_ok-progress.ensures.none in
    let k = subst (λ (is : List Instr). Known is c.in_ok-progress.progress) c.deref.ensures.value (known c.deref.result.now c.in_ok-progress.progress fine.0 fine.1 fine.2) in
    (k.sound, subst (λ (is : List Instr). IsLoopTable is c.in_ok-loops.loops.items) c.deref-2.ensures.value c.in_ok-loops.ensures, k.calls, k.tasks)

pub returns-clause-orderly : goal.returns-clause-orderly
returns-clause-orderly g c =
    let fine = c.in_ok-progress.ensures.none in
    let k = subst (λ (is : List Instr). Known is c.in_ok-progress.progress) c.deref.ensures.value (known c.deref.result.now c.in_ok-progress.progress fine.0 fine.1 fine.2) in
    k.sound.order
