-- What contracts see of a session. (This project's rule.)
use Rattle.std.specs.Prelude.{List}
use Rattle.executor_core.specs.CoreView.{CoreView}
use Rattle.executor_model.specs.declared.types.Line.{Line}

-- an executor, and the lines that the last event was answered
pub record Seen : Type 0 where
  pub core : CoreView
  pub lines : List Line
