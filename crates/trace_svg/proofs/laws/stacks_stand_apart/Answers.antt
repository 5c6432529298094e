use Rattle.trace_svg.proofs.StackLaws
use Rattle.trace_svg.proofs.laws.stacks_stand_apart.Goals as goal

pub returns : goal.returns
returns c = StackLaws.stacks_stand_apart
