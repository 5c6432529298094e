use Rattle.task_word.proofs.WordLaws.{wins_once}
use Rattle.task_word.proofs.laws.one_winner.Goals as goal

pub returns : goal.returns
returns c = wins_once
