use Rattle.task_word.proofs.WordNumbers.{told_tells}
use Rattle.task_word.proofs.laws.word_equality_tells.Goals as goal

pub returns : goal.returns
returns c = λ a b. told_tells a b
