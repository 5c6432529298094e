use Rattle.task_word.proofs.WordLaws.{ended_stands}
use Rattle.task_word.proofs.laws.an_ended_word_stands.Goals as goal

pub returns : goal.returns
returns c = ended_stands
