-- What is written says all but what was ended.
use Rattle.live_core.proofs.Together.{one_executor, stands_there}
use Rattle.live_core.proofs.laws.what_is_written_is_of_one_executor.Goals as goal

pub returns-clause-one : goal.returns-clause-one
returns-clause-one c = one_executor

pub returns-clause-stands : goal.returns-clause-stands
returns-clause-stands c = stands_there
