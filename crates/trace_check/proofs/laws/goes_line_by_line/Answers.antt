use Rattle.trace_check.proofs.Splits
use Rattle.trace_check.proofs.laws.goes_line_by_line.Goals as goal

pub returns : goal.returns
returns c = Splits.goes_line_by_line
