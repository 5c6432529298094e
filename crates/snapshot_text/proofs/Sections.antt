-- Sections: the lines of tasks, of given numbers and of empty slots.
use Rattle.std.proofs.Common.{ℕ, ◌<◌, length, arith}
use Rattle.task_table.specs.declared.image.Image.{Image}
use Rattle.snapshot_text.specs.Spelling.{empty_text, given_text, task_text}

pub task_has_bytes : (r : Image) → 0 < length (task_text r)
task_has_bytes r = omega arith

pub given_has_bytes : (n : ℕ) → 0 < length (given_text n)
given_has_bytes n = omega arith

pub empty_has_bytes : (slot : ℕ) → 0 < length (empty_text slot)
empty_has_bytes slot = omega arith
