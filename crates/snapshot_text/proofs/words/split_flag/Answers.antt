use Rattle.snapshot_text.proofs.Fields.{no_flag}
use Rattle.snapshot_text.proofs.words.split_flag.Goals as goal

pub returns-in_default-split_truth : goal.returns-in_default-split_truth
returns-in_default-split_truth c = no_flag c.args.word.now c.args.bytes.now c.in-Some.rest.now c.in-Some.ensures c.in_default-split_truth.ensures
