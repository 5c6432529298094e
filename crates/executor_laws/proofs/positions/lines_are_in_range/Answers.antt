use Rattle.executor_laws.proofs.Lines
use Rattle.executor_laws.proofs.positions.lines_are_in_range.Goals as goal

pub returns : goal.returns
returns c = Lines.lines_are_in_range
