use Rattle.trace_svg.proofs.StackLaws
use Rattle.trace_svg.proofs.laws.marks_are_counted.Goals as goal

pub returns : goal.returns
returns c = StackLaws.marks_are_counted
