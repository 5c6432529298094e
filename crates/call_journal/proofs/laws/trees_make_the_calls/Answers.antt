use Rattle.call_journal.proofs.WrittenBlocks.{tree_makes_calls}
use Rattle.call_journal.proofs.laws.trees_make_the_calls.Goals as goal

pub returns : goal.returns
returns c = tree_makes_calls
