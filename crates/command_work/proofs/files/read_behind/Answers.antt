use Rattle.std.proofs.Common.{arith, length-take-le}
use borrow.Rule.Slice.PartMut.{take_put}
use Rattle.command_work.proofs.Readings.{read_in_place}
use Rattle.command_work.proofs.files.read_behind.Goals as goal

pub returns-clause-front : goal.returns-clause-front
returns-clause-front g c = take_put _ _ c.args.text.now _ (omega (arith, c.requires))

pub returns-clause-read : goal.returns-clause-read
returns-clause-read g c =
    read_in_place _ _ c.read_some.result _ c.read_some.new.buf _ c.args.filled (length-take-le _ c.args.text.now (omega (arith, c.requires))) c.read_some.ensures.bytes
