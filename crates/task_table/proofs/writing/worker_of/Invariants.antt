-- No worker before this one has the slot.
use Rattle.std.proofs.Common.{◌≡◌, ℕ, ◌<◌, Some, None}
use Rattle.std.specs.Prelude.{slice_index_or}
use Rattle.task_table.proofs.writing.worker_of.Given as goal

abbrev pub invariant-loop-worker : goal.invariant-loop-worker
invariant-loop-worker l = (w : ℕ) → w < l.worker → slice_index_or l.work w None ≡ Some l.slot → ⊥
