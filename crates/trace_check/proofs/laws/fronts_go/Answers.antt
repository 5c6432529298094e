use Rattle.trace_check.proofs.Splits
use Rattle.trace_check.proofs.laws.fronts_go.Goals as goal

pub returns : goal.returns
returns c = Splits.fronts_go
