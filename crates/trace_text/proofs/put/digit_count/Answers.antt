use Rattle.std.proofs.Common.{refl, sym, arith}
use Rattle.trace_text.proofs.Counts.{length_is}
use Rattle.trace_text.proofs.put.digit_count.Goals as goal

pub returns-then-n-lt100000 : goal.returns-then-n-lt100000
returns-then-n-lt100000 c = sym (length_is 4 c.args.n 10000 refl (λ p. omega (arith, c.if-n-lt10000.false)) (omega (arith, c.if-n-lt100000.true)) c.ranges.n.fits)
