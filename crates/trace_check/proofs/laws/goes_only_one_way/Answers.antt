use Rattle.trace_check.proofs.Splits
use Rattle.trace_check.proofs.laws.goes_only_one_way.Goals as goal

pub returns : goal.returns
returns c = Splits.goes_only_one_way
