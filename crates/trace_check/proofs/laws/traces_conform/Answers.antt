use Rattle.trace_check.proofs.TextLaws
use Rattle.trace_check.proofs.laws.traces_conform.Goals as goal

pub returns : goal.returns
returns c = TextLaws.traces_conform
