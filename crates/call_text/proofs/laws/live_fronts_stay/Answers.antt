use Rattle.call_text.proofs.LiveFronts.{live_front_stays}
use Rattle.call_text.proofs.laws.live_fronts_stay.Goals as goal

pub returns : goal.returns
returns c = live_front_stays
