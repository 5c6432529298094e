use Rattle.std.proofs.Common.{◌<◌, length, arith}
use Rattle.line_journal.proofs.Frames.{sevens_on}
use Rattle.line_journal.proofs.group.put_sevens.Goals as goal

pub loop-i-preserved : goal.loop-i-preserved
loop-i-preserved c =
    let low : c.loop-i.i < length c.loop-i.bytes = omega (arith, c.loop-i-test.true, c.loop-i.auto.bytes) in
    sevens_on c.loop-i.bytes c.loop-i.i c.loop-i.left c.args.number low c.loop-i.invariant
