use Rattle.trace_text.proofs.LineTexts.{first_line}
use Rattle.trace_text.proofs.laws.lines_are_one.Goals as goal

pub returns : goal.returns
returns c = first_line
