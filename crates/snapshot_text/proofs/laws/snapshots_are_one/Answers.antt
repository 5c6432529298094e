use Rattle.snapshot_text.proofs.Wholes.{one_snapshot}
use Rattle.snapshot_text.proofs.laws.snapshots_are_one.Goals as goal

pub returns : goal.returns
returns c = one_snapshot
