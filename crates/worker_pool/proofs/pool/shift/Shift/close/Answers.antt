use Rattle.worker_pool.proofs.Shifting.{full_or_memory}
use Rattle.worker_pool.proofs.pool.shift.Shift.close.Goals as goal

pub returns-in-Some-clause-kinds : goal.returns-in-Some-clause-kinds
returns-in-Some-clause-kinds g c = full_or_memory c.in-Some.fault (c.args.self.now.kept c.in-Some.fault c.in-Some.is).0
