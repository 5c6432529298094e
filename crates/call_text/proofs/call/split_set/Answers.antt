use Rattle.call_text.proofs.CallTexts.{no_policy}
use Rattle.call_text.proofs.call.split_set.Goals as goal

pub returns-in_default : goal.returns-in_default
returns-in_default c = no_policy c.args.bytes.now c.in_default.ensures
