use Rattle.trace_svg.proofs.StackLaws
use Rattle.trace_svg.proofs.laws.stacks_hold_marks.Goals as goal

pub returns : goal.returns
returns c = StackLaws.stacks_hold_marks
