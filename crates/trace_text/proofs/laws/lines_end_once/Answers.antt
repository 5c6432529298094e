use Rattle.trace_text.proofs.LineEnds.{line_ended}
use Rattle.trace_text.proofs.laws.lines_end_once.Goals as goal

pub returns : goal.returns
returns c = line_ended
