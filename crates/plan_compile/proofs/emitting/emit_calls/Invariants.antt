use Rattle.std.proofs.Common.{drop}
use Rattle.std.specs.Prelude.{nat_lt}
use Rattle.plan_compile.proofs.Emission.{InstrsLeft}
use Rattle.plan_compile.proofs.emitting.emit_calls.Given as goal

abbrev pub invariant-loop-call : goal.invariant-loop-call
invariant-loop-call g l =
    InstrsLeft l.firsts l.first (nat_lt 1 l.block.header.times) l.block.header.at l.block.calls l.fn.out.items l.out.items (drop l.call-index l.block.calls)
