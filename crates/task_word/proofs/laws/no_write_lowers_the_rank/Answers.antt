use Rattle.task_word.proofs.WordLaws.{lowers_none}
use Rattle.task_word.proofs.laws.no_write_lowers_the_rank.Goals as goal

pub returns : goal.returns
returns c = lowers_none
