-- What is written of an executor, so that another one can be made of it, and what is so of each one, whatever led to it.
-- All of it is this project's rule.
use Rattle.std.specs.Prelude.{◌≡◌, ℕ, ◌+◌, ◌≤◌, false, List}
use Rattle.task_table.specs.declared.image.Image.{Image}
use Rattle.task_table.specs.Formed.{IsFormed}
use Rattle.task_table.specs.Images as images
use Rattle.task_table.specs.Images.{AreImages}
use Rattle.live_core.specs.declared.frame.ExecutorFrame.{ExecutorFrame}
use Rattle.live_core.specs.Lives.{LiveView, never, AreGiven, AreAlive}
use Rattle.live_core.specs.Empties.{held_numbers, AreEmpty}

-- an executor has this beside its tasks and its empty slots
pub record HasFrame (m : LiveView) (f : ExecutorFrame) : Type 0 where
  pub table : images.HasFrame m.table f.table
  pub earliest : m.earliest ≡ f.earliest
  pub count : m.count ≡ f.count
  pub accepted : m.accepted ≡ f.accepted

-- this is written of an executor: what it has beside them, the images of its tasks, and its empty slots
pub record IsWritten (m : LiveView) (f : ExecutorFrame) (rs : List Image) (free : List ℕ) : Type 0 where
  pub frame : HasFrame m f
  pub tasks : AreImages m.table rs
  pub empty : AreEmpty (held_numbers m.table.slots) free

-- what is so of each executor, whatever led to it: its table is well formed, its numbers and moments are within their limits, until it
-- is shut each submission was accepted, and each task in a slot has a number that was given out, and something may come of it
pub record IsSound (m : LiveView) : Type 0 where
  pub table : IsFormed m.table
  pub few : m.count ≤ never
  pub behind : m.earliest ≤ m.table.moment + 1
  pub unshut : m.table.shut ≡ false → m.accepted ≡ m.count
  pub given : AreGiven m
  pub alive : AreAlive m.table.slots
