use Rattle.std.proofs.Common.{◌≡◌, ◌≤◌, None}
use Rattle.std.specs.Prelude.{vec_len, vec_capacity, replicate}
use Rattle.worker_pool.proofs.results.empty_notes.Given as goal

abbrev pub invariant-loop-task : goal.invariant-loop-task
invariant-loop-task g l = record {
  items : l.notes.items ≡ replicate l._task None;
  len : vec_len l.notes ≡ l._task;
  room : l.tasks ≤ vec_capacity l.notes;
}
