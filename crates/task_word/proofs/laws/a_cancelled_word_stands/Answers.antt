use Rattle.task_word.proofs.WordLaws.{cancelled_stands}
use Rattle.task_word.proofs.laws.a_cancelled_word_stands.Goals as goal

pub returns : goal.returns
returns c = cancelled_stands
