use Rattle.std.proofs.Common.{false}
use Rattle.std.proofs.lemmas.List.{get_or-replicate}
use Rattle.trace_check.proofs.busy.Busy.new.Goals as goal

pub returns-clause-none : goal.returns-clause-none
returns-clause-none c = λ w l. get_or-replicate 256 w false false l
