-- What contracts see of a session. (This project's rule.)
use Rattle.std.specs.Prelude.{List}
use Rattle.executor_model.specs.declared.types.Line.{Line}
use Rattle.timers.specs.Timers.{TimersView}

-- timers, and the lines of the last call that was taken
pub record Seen : Type 0 where
  pub timers : TimersView
  pub lines : List Line
