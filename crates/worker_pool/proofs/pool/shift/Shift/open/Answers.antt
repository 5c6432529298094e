use Rattle.std.proofs.Common.{rules, inr}
use Rattle.worker_pool.proofs.Shifting.{full_or_memory, not_running}
use Rattle.worker_pool.proofs.pool.shift.Shift.open.Goals as goal

pub returns-in-Some-clause-running : goal.returns-in-Some-clause-running
returns-in-Some-clause-running g c = (
  (λ is at. not_running c.in-Some.fault (c.args.self.now.kept c.in-Some.fault c.in-Some.is).0 (search rules)),
  (λ never. absurd (never (search rules))),
)

pub returns-in-Some-clause-kinds : goal.returns-in-Some-clause-kinds
returns-in-Some-clause-kinds g c = inr (full_or_memory c.in-Some.fault (c.args.self.now.kept c.in-Some.fault c.in-Some.is).0)
