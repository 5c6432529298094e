use Rattle.trace_check.proofs.TextLaws
use Rattle.trace_check.proofs.laws.findings_are_one.Goals as goal

pub returns : goal.returns
returns c = TextLaws.findings_are_one
