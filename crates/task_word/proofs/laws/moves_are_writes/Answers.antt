use Rattle.task_word.proofs.WordLaws.{moves_write}
use Rattle.task_word.proofs.laws.moves_are_writes.Goals as goal

pub returns : goal.returns
returns c = moves_write
