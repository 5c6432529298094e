-- What a line of a trace is.
-- This project's rule.
use Rattle.std.specs.Prelude.{ℕ}
use Rattle.executor_model.specs.declared.types.Message.{Message}

-- a line of a trace: what it says, and the moment at which it is said
pub record LineView : Type 0 where
  pub moment : ℕ
  pub message : Message
