use Rattle.std.proofs.Common.{refl}
use Rattle.plan_read.specs.declared.task_names.name.TheConstants.{NAME_BYTES}
use Rattle.plan_read.proofs.task_names.NameBytes.{looked_up}
use Rattle.plan_read.proofs.task_names.name.is_name_byte.Goals as goal

pub returns : goal.returns
returns c = looked_up NAME_BYTES 256 refl c.args.b c.ranges.b.fits
