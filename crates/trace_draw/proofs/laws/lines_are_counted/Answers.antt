use Rattle.trace_draw.proofs.Counts
use Rattle.trace_draw.proofs.laws.lines_are_counted.Goals as goal

pub returns : goal.returns
returns c = Counts.lines_are_counted
