-- What clauses see of what lies under the lock of a pool.
use Rattle.worker_pool.specs.declared.named.Named.{Ghosts}
use Rattle.worker_pool.specs.declared.pool.shift.Shift.{Shift}
use Rattle.worker_pool.specs.own.Shifts.{Under}

module _ {N A : Type 0} {named : Ghosts N} where
  -- the book, how far the run over it is, and who sleeps
  abbrev pub seen : Shift N A named → Under
  seen it = record { book = it.book; stage = it.stage; running = it.running; fault = it.fault; sleepers = it.sleepers }
