use Rattle.executor_laws.proofs.TaskWords
use Rattle.executor_laws.proofs.states.words_tell_the_history.Goals as goal

pub returns : goal.returns
returns c = TaskWords.words_tell_the_history
