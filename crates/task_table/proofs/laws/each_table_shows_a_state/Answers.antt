-- The state that the slots say.
use Rattle.task_table.proofs.Existing.{shown}
use Rattle.task_table.proofs.laws.each_table_shows_a_state.Goals as goal

pub returns : goal.returns
returns c = shown
