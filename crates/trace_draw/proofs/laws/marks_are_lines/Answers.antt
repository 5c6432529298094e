use Rattle.trace_draw.proofs.MarksWithin
use Rattle.trace_draw.proofs.laws.marks_are_lines.Goals as goal

pub returns : goal.returns
returns c = MarksWithin.marks_are_lines
