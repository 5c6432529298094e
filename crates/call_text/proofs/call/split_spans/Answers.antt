use Rattle.call_text.proofs.CallTexts.{no_first, behind_first}
use Rattle.call_text.proofs.call.split_spans.Goals as goal

pub returns-in_default : goal.returns-in_default
returns-in_default c = no_first c.args.bytes.now c.in_default.ensures

pub returns-in_default-last_period : goal.returns-in_default-last_period
returns-in_default-last_period c = behind_first c.args.bytes.now c.in-Some.rest.now c.in-Some.first c.in-Some.ensures c.in_default-last_period.ensures
