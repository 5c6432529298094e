use Rattle.executor_laws.proofs.CancelledWords
use Rattle.executor_laws.proofs.states.cancelled_words_stay.Goals as goal

pub returns : goal.returns
returns c = CancelledWords.cancelled_words_stay
