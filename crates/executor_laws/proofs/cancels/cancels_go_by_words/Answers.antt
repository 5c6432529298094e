use Rattle.executor_laws.proofs.CancelWords
use Rattle.executor_laws.proofs.cancels.cancels_go_by_words.Goals as goal

pub returns : goal.returns
returns c = CancelWords.cancels_go_by_words
