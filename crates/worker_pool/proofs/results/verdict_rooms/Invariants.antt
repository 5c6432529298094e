use Rattle.std.proofs.Common.{◌≡◌, length}
use Rattle.worker_pool.proofs.results.verdict_rooms.Given as goal

abbrev pub invariant-loop-task : goal.invariant-loop-task
invariant-loop-task g l = length l.rooms.items ≡ l._task
