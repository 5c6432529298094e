-- Snapshots: what a snapshot holds (this project's rule).
use Rattle.std.specs.Prelude.{ℕ, List}
use Rattle.task_table.specs.declared.image.Image.{Image}
use Rattle.snapshot_text.specs.declared.head.Head.{Head}

-- what a snapshot holds: what stands at its front, the images of the tasks, the numbers of a caller's own that go with them, where
-- there are such, and the empty slots in their order
pub record SnapshotView : Type 0 where
  pub head : Head
  pub tasks : List Image
  pub given : List ℕ
  pub empty : List ℕ
