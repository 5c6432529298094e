use Rattle.call_text.proofs.LiveFronts.{one_of_live_fronts}
use Rattle.call_text.proofs.laws.live_fronts_are_one.Goals as goal

pub returns : goal.returns
returns c = one_of_live_fronts
