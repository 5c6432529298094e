use Rattle.plan_read.proofs.KeyTable.{gathered}
use Rattle.plan_read.proofs.key_lists.keys_in.Goals as goal

pub returns : goal.returns
returns g c = gathered c.standing.result (λ v. v.items) c.all_keys.result.now c.args.version c.args.role c.all_keys.ensures c.standing.ensures
