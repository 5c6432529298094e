use Rattle.std.proofs.Common.{◌≡◌, ◌-◌, ℕ}
use Rattle.worker_pool.specs.own.Shifts.{GetNothing, KeepsLimit}
use Rattle.worker_pool.specs.own.Seen.{seen}
use Rattle.worker_pool.proofs.pool.shift.Shift.next.Given as goal

-- some starts got nothing, and nothing was refused
abbrev pub invariant-loop-self : goal.invariant-loop-self
invariant-loop-self g l = record {
  nothing : (count : ℕ) × GetNothing l.worker count (seen l.fn.self) (seen l.self);
  limit : KeepsLimit (seen l.fn.self) (seen l.self);
  fault : l.self.fault ≡ l.fn.self.fault;
}

abbrev pub decreases-loop-self : goal.decreases-loop-self
decreases-loop-self g l = l.self.book.core.limit - l.self.book.core.taken
