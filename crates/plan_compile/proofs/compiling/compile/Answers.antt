use Rattle.std.proofs.Common.{◌≡◌, None, inl, inr}
use Rattle.queue_code.specs.Checks.{code_fault}
use Rattle.plan_compile.proofs.CodeCalls.{code_makes_calls}
use Rattle.plan_compile.proofs.NoFault.{code_has_no_fault}
use Rattle.plan_compile.proofs.Periods.{no_zero_periods}
use Rattle.plan_compile.proofs.compiling.compile.Goals as goal

pub returns-in-Ok-clause-calls : goal.returns-in-Ok-clause-calls
returns-in-Ok-clause-calls g c = rw (c.in-Ok.ensures.code.0, c.in_ok-instrs.ensures, c.blocks-2.ensures.blocks) (code_makes_calls c.args.plan.now c.blocks-2.ensures.ordered)

pub returns-in-Ok-clause-periods : goal.returns-in-Ok-clause-periods
returns-in-Ok-clause-periods g c = rw (c.in-Ok.ensures.code.0, c.in_ok-instrs.ensures, c.blocks-2.ensures.blocks) (no_zero_periods c.args.plan.now c.blocks-2.ensures.ordered)

pub want_of_memory-requires : goal.want_of_memory-requires
want_of_memory-requires g c =
    let none : code_fault c.in_ok-instrs.instrs.items ≡ None = rw (c.in_ok-instrs.ensures, c.blocks-2.ensures.blocks) (code_has_no_fault c.args.plan.now c.blocks-2.ensures.ordered) in
    elim (c.in-Err.ensures.fault) [ inl fault ↦ absurd (let e = rw none at fault in cc) | inr memory ↦ memory.0 ]
