use Rattle.trace_check.proofs.TextLaws
use Rattle.trace_check.proofs.laws.breaks_or_conforms.Goals as goal

pub returns : goal.returns
returns c = TextLaws.breaks_or_conforms
