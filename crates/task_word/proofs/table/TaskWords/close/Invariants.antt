use Rattle.std.proofs.Common.{◌≡◌, ℕ, ◌+◌, ◌<◌, slice_index, vec_len}
use Rattle.std.specs.Vec.{vec_capacity}
use Rattle.task_word.proofs.table.TaskWords.close.Given as goal

-- the words of the tasks below k are copied, and there is room for all tasks and no more
abbrev pub invariant-loop-k : goal.invariant-loop-k
invariant-loop-k g l =
    (vec_len l.words ≡ l.k) × (vec_capacity l.words ≡ l.tasks) × ((j : ℕ) → j < l.k → slice_index l.words.items j ≡ slice_index l.closed.words.items (j + 1))
