use Rattle.call_text.proofs.CallTexts.{first_call}
use Rattle.call_text.proofs.laws.call_lines_are_one.Goals as goal

pub returns : goal.returns
returns c = first_call
