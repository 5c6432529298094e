use Rattle.std.proofs.Common.{None}
use Rattle.std.proofs.lemmas.List.{get_or-replicate}
use Rattle.trace_draw.proofs.ends.Ends.new.Goals as goal

pub returns : goal.returns
returns c = λ w l. get_or-replicate 256 w None None l
