use Rattle.executor_laws.proofs.WordMoves as WordMoves
use Rattle.executor_laws.proofs.states.needs_move_words.Goals as goal

pub returns : goal.returns
returns c = WordMoves.needs_move_words
