use Rattle.trace_draw.proofs.Counts
use Rattle.trace_draw.proofs.laws.finishes_are_counted.Goals as goal

pub returns : goal.returns
returns c = Counts.finishes_are_counted
