use Rattle.std.proofs.Common.{arith}
use Rattle.trace_check.proofs.First.{found, none_found, beq_same}
use Rattle.trace_check.proofs.busy.Busy.first.Goals as goal

pub returns-then-self-w : goal.returns-then-self-w
returns-then-self-w c = λ test same. found c.args.self.now.flags c.args.wanted c.args.self.now.workers c.loop-w.w test (omega (arith, c.type_inv.self)) c.loop-w-test.true c.loop-w.invariant (beq_same _ _ c.if-self-w.true) same

pub returns : goal.returns
returns c = λ test same. none_found c.args.self.now.flags c.args.wanted c.args.self.now.workers c.loop-w.w test (omega (arith, c.if-prove.false)) c.loop-w-test.false c.loop-w.invariant same
