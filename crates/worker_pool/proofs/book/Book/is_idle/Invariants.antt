use Rattle.std.proofs.Common.{◌≡◌, ◌<◌, ℕ, None, false}
use Rattle.std.specs.Prelude.{is_some, slice_index_or}
use Rattle.worker_pool.proofs.book.Book.is_idle.Given as goal

-- no worker so far has a task
abbrev pub invariant-loop-worker : goal.invariant-loop-worker
invariant-loop-worker g l = (w : ℕ) → w < l.worker → is_some (slice_index_or l.self.core.work w None) ≡ false
