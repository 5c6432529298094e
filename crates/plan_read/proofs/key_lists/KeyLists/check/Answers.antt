use Rattle.plan_read.proofs.KeyCounts.{keys_apart}
use Rattle.plan_read.proofs.key_lists.KeyLists.check.Goals as goal

pub pass-requires : goal.pass-requires
pass-requires g c = rw c.of-keys.ensures (keys_apart c.args.self.now.version c.args.role)

pub has_only-requires : goal.has_only-requires
has_only-requires g c = rw c.of-keys.ensures (keys_apart c.args.self.now.version c.args.role)
