use Rattle.task_word.proofs.WordLaws.{raises}
use Rattle.task_word.proofs.laws.moves_raise_the_rank.Goals as goal

pub returns : goal.returns
returns c = raises
