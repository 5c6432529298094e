use Rattle.std.proofs.lemmas.Map.Text.{btree_map_updates_str}
use Rattle.plan_read.proofs.sites.add.Goals as goal

pub returns-clause-added : goal.returns-clause-added
returns-clause-added g c = λ q. btree_map_updates_str c.args.name.now c.args.names.now c.insert.new.self _ c.in_ok-insert.ensures.updates q
