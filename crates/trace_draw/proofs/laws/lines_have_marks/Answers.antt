use Rattle.trace_draw.proofs.MarksWithin
use Rattle.trace_draw.proofs.laws.lines_have_marks.Goals as goal

pub returns : goal.returns
returns c = MarksWithin.lines_have_marks
